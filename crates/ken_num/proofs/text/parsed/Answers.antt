use Rattle.std.proofs.Common.{rules, ◌≡◌, ◌∙◌, decimal, Ok, sym, ap}
use Rattle.std.specs.Result.{result_ok}
use Rattle.std.specs.Str.{IsUtf8}
use Rattle.std.proofs.lemmas.Fmt.{IsAscii-decimal, parse-decimal}
use Rattle.std.proofs.lemmas.Str.{IsUtf8-from_ascii}
use Rattle.ken_num.proofs.text.parsed.Goals as goal

-- what std reads of a number's own spelling is the number
pub returns-in-Ok : goal.returns-in-Ok
returns-in-Ok c = λ n word is.
    let read : c.parse.result ≡ Ok n = parse-decimal 64 n c.in-Ok.text.now c.parse.result word word (c.in-Ok.ensures.cases.0 ∙ sym is) c.parse.ensures.value.0 in
    c.ok.ensures.value ∙ ap result_ok read

-- which is plain text
pub returns-in-Err : goal.returns-in-Err
returns-in-Err c = λ n word is.
    let plain : IsUtf8 (decimal n) = IsUtf8-from_ascii (decimal n) (IsAscii-decimal n word) in
    search (rules, plain)
