use Rattle.std.proofs.Common.{◌≡◌, ◌<◌, ◌^◌, drop}
use Rattle.std.specs.Str.{all_ascii_digits}
use Rattle.ken_num.specs.Numbers.{value_from}
use Rattle.ken_num.proofs.text.num.Given as goal

-- what is left to read decides as the whole does
abbrev pub invariant-loop-byte : goal.invariant-loop-byte
invariant-loop-byte l = record {
  digits : all_ascii_digits (drop l.byte-index l.bytes) ≡ all_ascii_digits l.bytes;
  value : value_from l.value (drop l.byte-index l.bytes) ≡ value_from 0 l.bytes;
  below : l.value < 10 ^ l.byte-index;
}
