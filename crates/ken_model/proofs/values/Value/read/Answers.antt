use Rattle.std.proofs.Common.{◌≡◌, ℕ, List, length, Some, sym, ap, ◌∙◌}
use Rattle.byteorder.specs.Endian.{big_number}
use Rattle.ken_model.specs.declared.values.Block.{Block}
use Rattle.ken_model.specs.declared.values.Value.{Value}
use Rattle.ken_model.specs.Checks.{with_blocks}
use Rattle.ken_model.proofs.Valid.{IsHeap-stands}
use Rattle.ken_model.proofs.ReadBack.{read_some, read_none}
use Rattle.ken_model.proofs.values.Value.read.Goals as goal

-- the value that is made
made : (bytes : List ℕ) (root root' : ℕ) (blocks blocks' : List Block) → root ≡ root' → blocks ≡ blocks' → (let v : Value = record { size = length bytes; root = root; blocks = blocks } in v) ≡ record { size = length bytes; root = root'; blocks = blocks' }
made bytes root root' blocks blocks' is is' =
    ap (λ (k : ℕ). let v : Value = record { size = length bytes; root = k; blocks = blocks } in v) is
    ∙ ap (λ (l : List Block). let v : Value = record { size = length bytes; root = root'; blocks = l } in v) is'

pub returns-then-not-has_header-clause-value : goal.returns-then-not-has_header-clause-value
returns-then-not-has_header-clause-value c = sym (read_none c.args.bytes.now (c.has_header.ensures.wrong c.if-not-has_header.true))

pub returns-in_default-clause-value : goal.returns-in_default-clause-value
returns-in_default-clause-value c = let none = rw c.in_default.is at c.in_ok-blocks.ensures.none in sym (read_none c.args.bytes.now none)

pub returns-clause-value : goal.returns-clause-value
returns-clause-value c =
    let xs = c.args.bytes.now in
    let stands = rw c.in-Some.is at c.in_ok-blocks.ensures.some in
    ap (λ (v : Value). Some v) (made xs c.read_u64.result (big_number 8 xs) c.new.result c.in-Some.blocks.items c.read_u64.ensures c.new.ensures) ∙ sym (read_some xs (with_blocks xs c.in-Some.blocks.items) stands)

pub returns-clause-heap : goal.returns-clause-heap
returns-clause-heap c =
    let xs = c.args.bytes.now in
    let stands = rw c.in-Some.is at c.in_ok-blocks.ensures.some in
    rw (c.read_u64.ensures, c.new.ensures) (IsHeap-stands xs (with_blocks xs c.in-Some.blocks.items) stands)
