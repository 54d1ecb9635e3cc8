use Rattle.std.proofs.Common.{◌≡◌, Some, None}
use Rattle.ken_check.specs.Kinds.{IsEmissionLine, IsEmissionOf}
use Rattle.ken_check.proofs.Hearing.{heard_as}
use Rattle.ken_check.proofs.LineWords.{emission_node, emission_number}
use Rattle.ken_check.proofs.KnowsEmission.{small_node}
use Rattle.ken_check.proofs.checker.Checker.emission.Goals as goal

pub returns-in-Some-Some : goal.returns-in-Some-Some
returns-in-Some-Some c = λ g most.
    let text = c.args.text.now in
    let node = c.in-Some-Some.node in
    let number = c.in-Some-Some.number in
    heard_as g most (IsEmissionOf g node number) (IsEmissionLine g) c.args.self.now c.emit.new.self text c.emit.result
    (λ told told2 is. is.0)
    (λ told told2 knows l.
    let e = l.emission in
    let small = small_node g most c.args.self.now told knows _ told2 l in
    let same_node : Some node ≡ Some e.node = c.in-Some-Some.ensures e.node small (emission_node text e l.printable l.text) in
    let word = emission_number text e l.printable l.text in
    let same_number : Some number ≡ Some e.out.number = c.in-Some-Some.ensures' e.out.number l.printable.number word in
    (l, (cc), (cc)))
    (c.emit.ensures g most)

pub returns-in_default : goal.returns-in_default
returns-in_default c = λ g most told knows told2 l.
    let e = l.emission in
    let word = emission_number c.args.text.now e l.printable l.text in
    let read : None ≡ Some e.out.number = c.in_default.ensures' e.out.number l.printable.number word in
    absurd cc

pub returns-in_default-2 : goal.returns-in_default-2
returns-in_default-2 c = λ g most told knows told2 l.
    let e = l.emission in
    let small = small_node g most c.args.self.now told knows _ told2 l in
    let read : c.node_at.result ≡ Some e.node = c.node_at.ensures e.node small (emission_node c.args.text.now e l.printable l.text) in
    absurd cc
