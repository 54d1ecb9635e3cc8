-- The calls of a visit, one after another.
use Rattle.ken_run.proofs.AccountsRestarts.{accounts-handed-on}
use Rattle.ken_run.proofs.Leaving.{still-works}
use Rattle.ken_run.proofs.Refusals.{refused-handed-on}
use Rattle.ken_run.proofs.run.Run.work.Goals as goal
use Rattle.std.proofs.Common.{arith}
use Rattle.ken_flow.specs.Standstill.{Heard, Posted, Rested, Written}
use Rattle.ken_run.proofs.Moves.{less-err, moves-less, on-ok-with}
use Rattle.ken_run.specs.Patched.{HasPatched, HasSettled, IsSettledSince, KeepsImage, MaySync}
use Rattle.ken_run.proofs.Patched.{call-broken, err-still, ok-still, still-then, work-called}
use Rattle.ken_run.proofs.Visits.{visit-moves}

pub pages-requires : goal.pages-requires
pages-requires g c = (still-works (λ w. g.D.Disk.told w.disk) (λ w. g.D.Disk.size w.disk) g.U.Outlet.took g.A.App.handler c.args.node c.args.self.now c.turns.new.self c.in_ok-turns.ensures.leaves c.requires)

pub settle-requires : goal.settle-requires
settle-requires g c = (still-works (λ w. g.D.Disk.told w.disk) (λ w. g.D.Disk.size w.disk) g.U.Outlet.took g.A.App.handler c.args.node c.turns.new.self c.pages.new.self c.in_ok-pages.ensures.leaves (still-works (λ w. g.D.Disk.told w.disk) (λ w. g.D.Disk.size w.disk) g.U.Outlet.took g.A.App.handler c.args.node c.args.self.now c.turns.new.self c.in_ok-turns.ensures.leaves c.requires))

pub send-requires : goal.send-requires
send-requires g c = (still-works (λ w. g.D.Disk.told w.disk) (λ w. g.D.Disk.size w.disk) g.U.Outlet.took g.A.App.handler c.args.node c.pages.new.self c.settle.new.self c.in_ok-settle.ensures.leaves (still-works (λ w. g.D.Disk.told w.disk) (λ w. g.D.Disk.size w.disk) g.U.Outlet.took g.A.App.handler c.args.node c.turns.new.self c.pages.new.self c.in_ok-pages.ensures.leaves (still-works (λ w. g.D.Disk.told w.disk) (λ w. g.D.Disk.size w.disk) g.U.Outlet.took g.A.App.handler c.args.node c.args.self.now c.turns.new.self c.in_ok-turns.ensures.leaves c.requires)))

pub hear-requires : goal.hear-requires
hear-requires g c = (still-works (λ w. g.D.Disk.told w.disk) (λ w. g.D.Disk.size w.disk) g.U.Outlet.took g.A.App.handler c.args.node c.settle.new.self c.send.new.self c.in_ok-send.ensures.leaves (still-works (λ w. g.D.Disk.told w.disk) (λ w. g.D.Disk.size w.disk) g.U.Outlet.took g.A.App.handler c.args.node c.pages.new.self c.settle.new.self c.in_ok-settle.ensures.leaves (still-works (λ w. g.D.Disk.told w.disk) (λ w. g.D.Disk.size w.disk) g.U.Outlet.took g.A.App.handler c.args.node c.turns.new.self c.pages.new.self c.in_ok-pages.ensures.leaves (still-works (λ w. g.D.Disk.told w.disk) (λ w. g.D.Disk.size w.disk) g.U.Outlet.took g.A.App.handler c.args.node c.args.self.now c.turns.new.self c.in_ok-turns.ensures.leaves c.requires))))

pub outputs-requires : goal.outputs-requires
outputs-requires g c = (still-works (λ w. g.D.Disk.told w.disk) (λ w. g.D.Disk.size w.disk) g.U.Outlet.took g.A.App.handler c.args.node c.send.new.self c.hear.new.self c.in_ok-hear.ensures.leaves (still-works (λ w. g.D.Disk.told w.disk) (λ w. g.D.Disk.size w.disk) g.U.Outlet.took g.A.App.handler c.args.node c.settle.new.self c.send.new.self c.in_ok-send.ensures.leaves (still-works (λ w. g.D.Disk.told w.disk) (λ w. g.D.Disk.size w.disk) g.U.Outlet.took g.A.App.handler c.args.node c.pages.new.self c.settle.new.self c.in_ok-settle.ensures.leaves (still-works (λ w. g.D.Disk.told w.disk) (λ w. g.D.Disk.size w.disk) g.U.Outlet.took g.A.App.handler c.args.node c.turns.new.self c.pages.new.self c.in_ok-pages.ensures.leaves (still-works (λ w. g.D.Disk.told w.disk) (λ w. g.D.Disk.size w.disk) g.U.Outlet.took g.A.App.handler c.args.node c.args.self.now c.turns.new.self c.in_ok-turns.ensures.leaves c.requires)))))

pub returns-in_err-pages-clause-accounts : goal.returns-in_err-pages-clause-accounts
returns-in_err-pages-clause-accounts g c = λ terms game made r0 low a0.
    let r1 = c.in_ok-turns.ensures.leaves game made r0 low in
    let a1 = c.in_ok-turns.ensures.accounts terms game made r0 low a0 in
    accounts-handed-on (λ w. g.D.Disk.told w.disk) (λ w. g.D.Disk.faults w.disk) (λ w. g.D.Disk.fate w.disk) g.O.Oracle.telling terms game made c.pages.new.self c.args.node c.from_residual-in_err-pages.result c.in_err-pages.field-0.0 c.from_residual-in_err-pages.ensures.1 (c.in_err-pages.ensures.accounts terms game made r1 low a1)

pub returns-in_err-settle-clause-accounts : goal.returns-in_err-settle-clause-accounts
returns-in_err-settle-clause-accounts g c = λ terms game made r0 low a0.
    let r1 = c.in_ok-turns.ensures.leaves game made r0 low in
    let a1 = c.in_ok-turns.ensures.accounts terms game made r0 low a0 in
    let r2 = c.in_ok-pages.ensures.leaves game made r1 low in
    let a2 = c.in_ok-pages.ensures.accounts terms game made r1 low a1 in
    accounts-handed-on (λ w. g.D.Disk.told w.disk) (λ w. g.D.Disk.faults w.disk) (λ w. g.D.Disk.fate w.disk) g.O.Oracle.telling terms game made c.settle.new.self c.args.node c.from_residual-in_err-settle.result c.in_err-settle.field-0.0 c.from_residual-in_err-settle.ensures.1 (c.in_err-settle.ensures.accounts terms game made r2 low a2)

pub returns-in_err-send-clause-accounts : goal.returns-in_err-send-clause-accounts
returns-in_err-send-clause-accounts g c = λ terms game made r0 low a0.
    let r1 = c.in_ok-turns.ensures.leaves game made r0 low in
    let a1 = c.in_ok-turns.ensures.accounts terms game made r0 low a0 in
    let r2 = c.in_ok-pages.ensures.leaves game made r1 low in
    let a2 = c.in_ok-pages.ensures.accounts terms game made r1 low a1 in
    let r3 = c.in_ok-settle.ensures.leaves game made r2 low in
    let a3 = c.in_ok-settle.ensures.accounts terms game made r2 low a2 in
    accounts-handed-on (λ w. g.D.Disk.told w.disk) (λ w. g.D.Disk.faults w.disk) (λ w. g.D.Disk.fate w.disk) g.O.Oracle.telling terms game made c.send.new.self c.args.node c.from_residual-in_err-send.result c.in_err-send.field-0.0 c.from_residual-in_err-send.ensures.1 (c.in_err-send.ensures.accounts terms game made r3 low a3)

pub returns-in_err-hear-clause-accounts : goal.returns-in_err-hear-clause-accounts
returns-in_err-hear-clause-accounts g c = λ terms game made r0 low a0.
    let r1 = c.in_ok-turns.ensures.leaves game made r0 low in
    let a1 = c.in_ok-turns.ensures.accounts terms game made r0 low a0 in
    let r2 = c.in_ok-pages.ensures.leaves game made r1 low in
    let a2 = c.in_ok-pages.ensures.accounts terms game made r1 low a1 in
    let r3 = c.in_ok-settle.ensures.leaves game made r2 low in
    let a3 = c.in_ok-settle.ensures.accounts terms game made r2 low a2 in
    let r4 = c.in_ok-send.ensures.leaves game made r3 low in
    let a4 = c.in_ok-send.ensures.accounts terms game made r3 low a3 in
    accounts-handed-on (λ w. g.D.Disk.told w.disk) (λ w. g.D.Disk.faults w.disk) (λ w. g.D.Disk.fate w.disk) g.O.Oracle.telling terms game made c.hear.new.self c.args.node c.from_residual-in_err-hear.result c.in_err-hear.field-0.0 c.from_residual-in_err-hear.ensures.1 (c.in_err-hear.ensures.accounts terms game made r4 low a4)

pub returns-clause-accounts : goal.returns-clause-accounts
returns-clause-accounts g c = λ terms game made r0 low a0.
    let r1 = c.in_ok-turns.ensures.leaves game made r0 low in
    let a1 = c.in_ok-turns.ensures.accounts terms game made r0 low a0 in
    let r2 = c.in_ok-pages.ensures.leaves game made r1 low in
    let a2 = c.in_ok-pages.ensures.accounts terms game made r1 low a1 in
    let r3 = c.in_ok-settle.ensures.leaves game made r2 low in
    let a3 = c.in_ok-settle.ensures.accounts terms game made r2 low a2 in
    let r4 = c.in_ok-send.ensures.leaves game made r3 low in
    let a4 = c.in_ok-send.ensures.accounts terms game made r3 low a3 in
    let r5 = c.in_ok-hear.ensures.leaves game made r4 low in
    let a5 = c.in_ok-hear.ensures.accounts terms game made r4 low a4 in
    c.outputs.ensures.accounts terms game made r5 low a5

pub returns-in_err-pages-clause-less : goal.returns-in_err-pages-clause-less
returns-in_err-pages-clause-less g c = λ was.
    let l0 = moves-less (λ w. g.D.Disk.told w.disk) (λ w. g.D.Disk.size w.disk) g.U.Outlet.took g.A.App.handler (λ game. Rested game c.args.node) c.args.node c.args.self.now c.turns.new.self c.in_ok-turns.ensures.moves c.requires in
    less-err c.args.self.now c.turns.new.self c.pages.new.self c.from_residual-in_err-pages.result c.in_err-pages.field-0.0 (omega (arith, l0)) c.from_residual-in_err-pages.ensures.1 (λ same. c.in_err-pages.ensures.less (cc)) was

pub returns-in_err-settle-clause-less : goal.returns-in_err-settle-clause-less
returns-in_err-settle-clause-less g c = λ was.
    let l0 = moves-less (λ w. g.D.Disk.told w.disk) (λ w. g.D.Disk.size w.disk) g.U.Outlet.took g.A.App.handler (λ game. Rested game c.args.node) c.args.node c.args.self.now c.turns.new.self c.in_ok-turns.ensures.moves c.requires in
    let l1 = moves-less (λ w. g.D.Disk.told w.disk) (λ w. g.D.Disk.size w.disk) g.U.Outlet.took g.A.App.handler (λ game. Written c.args.node) c.args.node c.turns.new.self c.pages.new.self c.in_ok-pages.ensures.moves (still-works (λ w. g.D.Disk.told w.disk) (λ w. g.D.Disk.size w.disk) g.U.Outlet.took g.A.App.handler c.args.node c.args.self.now c.turns.new.self c.in_ok-turns.ensures.leaves c.requires) in
    less-err c.args.self.now c.pages.new.self c.settle.new.self c.from_residual-in_err-settle.result c.in_err-settle.field-0.0 (omega (arith, l0, l1)) c.from_residual-in_err-settle.ensures.1 (λ same. c.in_err-settle.ensures.less (cc)) was

pub returns-in_err-send-clause-less : goal.returns-in_err-send-clause-less
returns-in_err-send-clause-less g c = λ was.
    let l0 = moves-less (λ w. g.D.Disk.told w.disk) (λ w. g.D.Disk.size w.disk) g.U.Outlet.took g.A.App.handler (λ game. Rested game c.args.node) c.args.node c.args.self.now c.turns.new.self c.in_ok-turns.ensures.moves c.requires in
    let l1 = moves-less (λ w. g.D.Disk.told w.disk) (λ w. g.D.Disk.size w.disk) g.U.Outlet.took g.A.App.handler (λ game. Written c.args.node) c.args.node c.turns.new.self c.pages.new.self c.in_ok-pages.ensures.moves (still-works (λ w. g.D.Disk.told w.disk) (λ w. g.D.Disk.size w.disk) g.U.Outlet.took g.A.App.handler c.args.node c.args.self.now c.turns.new.self c.in_ok-turns.ensures.leaves c.requires) in
    let l2 = moves-less (λ w. g.D.Disk.told w.disk) (λ w. g.D.Disk.size w.disk) g.U.Outlet.took g.A.App.handler (λ game. Written c.args.node) c.args.node c.pages.new.self c.settle.new.self c.in_ok-settle.ensures.moves (still-works (λ w. g.D.Disk.told w.disk) (λ w. g.D.Disk.size w.disk) g.U.Outlet.took g.A.App.handler c.args.node c.turns.new.self c.pages.new.self c.in_ok-pages.ensures.leaves (still-works (λ w. g.D.Disk.told w.disk) (λ w. g.D.Disk.size w.disk) g.U.Outlet.took g.A.App.handler c.args.node c.args.self.now c.turns.new.self c.in_ok-turns.ensures.leaves c.requires)) in
    less-err c.args.self.now c.settle.new.self c.send.new.self c.from_residual-in_err-send.result c.in_err-send.field-0.0 (omega (arith, l0, l1, l2)) c.from_residual-in_err-send.ensures.1 (λ same. c.in_err-send.ensures.less (cc)) was

pub returns-in_err-hear-clause-less : goal.returns-in_err-hear-clause-less
returns-in_err-hear-clause-less g c = λ was.
    let l0 = moves-less (λ w. g.D.Disk.told w.disk) (λ w. g.D.Disk.size w.disk) g.U.Outlet.took g.A.App.handler (λ game. Rested game c.args.node) c.args.node c.args.self.now c.turns.new.self c.in_ok-turns.ensures.moves c.requires in
    let l1 = moves-less (λ w. g.D.Disk.told w.disk) (λ w. g.D.Disk.size w.disk) g.U.Outlet.took g.A.App.handler (λ game. Written c.args.node) c.args.node c.turns.new.self c.pages.new.self c.in_ok-pages.ensures.moves (still-works (λ w. g.D.Disk.told w.disk) (λ w. g.D.Disk.size w.disk) g.U.Outlet.took g.A.App.handler c.args.node c.args.self.now c.turns.new.self c.in_ok-turns.ensures.leaves c.requires) in
    let l2 = moves-less (λ w. g.D.Disk.told w.disk) (λ w. g.D.Disk.size w.disk) g.U.Outlet.took g.A.App.handler (λ game. Written c.args.node) c.args.node c.pages.new.self c.settle.new.self c.in_ok-settle.ensures.moves (still-works (λ w. g.D.Disk.told w.disk) (λ w. g.D.Disk.size w.disk) g.U.Outlet.took g.A.App.handler c.args.node c.turns.new.self c.pages.new.self c.in_ok-pages.ensures.leaves (still-works (λ w. g.D.Disk.told w.disk) (λ w. g.D.Disk.size w.disk) g.U.Outlet.took g.A.App.handler c.args.node c.args.self.now c.turns.new.self c.in_ok-turns.ensures.leaves c.requires)) in
    let l3 = moves-less (λ w. g.D.Disk.told w.disk) (λ w. g.D.Disk.size w.disk) g.U.Outlet.took g.A.App.handler (λ game. Posted game c.args.node) c.args.node c.settle.new.self c.send.new.self c.in_ok-send.ensures.moves (still-works (λ w. g.D.Disk.told w.disk) (λ w. g.D.Disk.size w.disk) g.U.Outlet.took g.A.App.handler c.args.node c.pages.new.self c.settle.new.self c.in_ok-settle.ensures.leaves (still-works (λ w. g.D.Disk.told w.disk) (λ w. g.D.Disk.size w.disk) g.U.Outlet.took g.A.App.handler c.args.node c.turns.new.self c.pages.new.self c.in_ok-pages.ensures.leaves (still-works (λ w. g.D.Disk.told w.disk) (λ w. g.D.Disk.size w.disk) g.U.Outlet.took g.A.App.handler c.args.node c.args.self.now c.turns.new.self c.in_ok-turns.ensures.leaves c.requires))) in
    less-err c.args.self.now c.send.new.self c.hear.new.self c.from_residual-in_err-hear.result c.in_err-hear.field-0.0 (omega (arith, l0, l1, l2, l3)) c.from_residual-in_err-hear.ensures.1 (λ same. c.in_err-hear.ensures.less (cc)) was

pub returns-in_err-turns-clause-less : goal.returns-in_err-turns-clause-less
returns-in_err-turns-clause-less g c = λ was.
    less-err c.args.self.now c.args.self.now c.turns.new.self c.from_residual.result c.in_err-turns.field-0.0 (omega arith) c.from_residual.ensures.1 (λ same. c.in_err-turns.ensures.less (cc)) was

pub returns-clause-less : goal.returns-clause-less
returns-clause-less g c = λ was.
    let l0 = moves-less (λ w. g.D.Disk.told w.disk) (λ w. g.D.Disk.size w.disk) g.U.Outlet.took g.A.App.handler (λ game. Rested game c.args.node) c.args.node c.args.self.now c.turns.new.self c.in_ok-turns.ensures.moves c.requires in
    let l1 = moves-less (λ w. g.D.Disk.told w.disk) (λ w. g.D.Disk.size w.disk) g.U.Outlet.took g.A.App.handler (λ game. Written c.args.node) c.args.node c.turns.new.self c.pages.new.self c.in_ok-pages.ensures.moves (still-works (λ w. g.D.Disk.told w.disk) (λ w. g.D.Disk.size w.disk) g.U.Outlet.took g.A.App.handler c.args.node c.args.self.now c.turns.new.self c.in_ok-turns.ensures.leaves c.requires) in
    let l2 = moves-less (λ w. g.D.Disk.told w.disk) (λ w. g.D.Disk.size w.disk) g.U.Outlet.took g.A.App.handler (λ game. Written c.args.node) c.args.node c.pages.new.self c.settle.new.self c.in_ok-settle.ensures.moves (still-works (λ w. g.D.Disk.told w.disk) (λ w. g.D.Disk.size w.disk) g.U.Outlet.took g.A.App.handler c.args.node c.turns.new.self c.pages.new.self c.in_ok-pages.ensures.leaves (still-works (λ w. g.D.Disk.told w.disk) (λ w. g.D.Disk.size w.disk) g.U.Outlet.took g.A.App.handler c.args.node c.args.self.now c.turns.new.self c.in_ok-turns.ensures.leaves c.requires)) in
    let l3 = moves-less (λ w. g.D.Disk.told w.disk) (λ w. g.D.Disk.size w.disk) g.U.Outlet.took g.A.App.handler (λ game. Posted game c.args.node) c.args.node c.settle.new.self c.send.new.self c.in_ok-send.ensures.moves (still-works (λ w. g.D.Disk.told w.disk) (λ w. g.D.Disk.size w.disk) g.U.Outlet.took g.A.App.handler c.args.node c.pages.new.self c.settle.new.self c.in_ok-settle.ensures.leaves (still-works (λ w. g.D.Disk.told w.disk) (λ w. g.D.Disk.size w.disk) g.U.Outlet.took g.A.App.handler c.args.node c.turns.new.self c.pages.new.self c.in_ok-pages.ensures.leaves (still-works (λ w. g.D.Disk.told w.disk) (λ w. g.D.Disk.size w.disk) g.U.Outlet.took g.A.App.handler c.args.node c.args.self.now c.turns.new.self c.in_ok-turns.ensures.leaves c.requires))) in
    let l4 = moves-less (λ w. g.D.Disk.told w.disk) (λ w. g.D.Disk.size w.disk) g.U.Outlet.took g.A.App.handler (λ game. Heard game c.args.node) c.args.node c.send.new.self c.hear.new.self c.in_ok-hear.ensures.moves (still-works (λ w. g.D.Disk.told w.disk) (λ w. g.D.Disk.size w.disk) g.U.Outlet.took g.A.App.handler c.args.node c.settle.new.self c.send.new.self c.in_ok-send.ensures.leaves (still-works (λ w. g.D.Disk.told w.disk) (λ w. g.D.Disk.size w.disk) g.U.Outlet.took g.A.App.handler c.args.node c.pages.new.self c.settle.new.self c.in_ok-settle.ensures.leaves (still-works (λ w. g.D.Disk.told w.disk) (λ w. g.D.Disk.size w.disk) g.U.Outlet.took g.A.App.handler c.args.node c.turns.new.self c.pages.new.self c.in_ok-pages.ensures.leaves (still-works (λ w. g.D.Disk.told w.disk) (λ w. g.D.Disk.size w.disk) g.U.Outlet.took g.A.App.handler c.args.node c.args.self.now c.turns.new.self c.in_ok-turns.ensures.leaves c.requires)))) in
    let last = c.outputs.ensures.less was in
    omega (arith, last, l0, l1, l2, l3, l4)

pub returns-clause-moves : goal.returns-clause-moves
returns-clause-moves g c =
    on-ok-with c.outputs.result c.outputs.ensures.moves
    (λ last. visit-moves (λ w. g.D.Disk.told w.disk) (λ w. g.D.Disk.size w.disk) g.U.Outlet.took g.A.App.handler c.args.node c.args.self.now c.turns.new.self c.pages.new.self c.settle.new.self c.send.new.self c.hear.new.self c.outputs.new.self c.in_ok-turns.ensures.moves c.in_ok-pages.ensures.moves c.in_ok-settle.ensures.moves c.in_ok-send.ensures.moves c.in_ok-hear.ensures.moves last)

pub returns-in_err-pages-clause-refused : goal.returns-in_err-pages-clause-refused
returns-in_err-pages-clause-refused g c = λ terms made low a0.
    let a1 = c.in_ok-turns.ensures.refused terms made low a0 in
    refused-handed-on g.U.Outlet.faults g.U.Outlet.fate terms made c.pages.new.self c.args.node c.from_residual-in_err-pages.result c.in_err-pages.field-0.0 c.from_residual-in_err-pages.ensures.1 (c.in_err-pages.ensures.refused terms made low a1)

pub returns-in_err-settle-clause-refused : goal.returns-in_err-settle-clause-refused
returns-in_err-settle-clause-refused g c = λ terms made low a0.
    let a1 = c.in_ok-turns.ensures.refused terms made low a0 in
    let a2 = c.in_ok-pages.ensures.refused terms made low a1 in
    refused-handed-on g.U.Outlet.faults g.U.Outlet.fate terms made c.settle.new.self c.args.node c.from_residual-in_err-settle.result c.in_err-settle.field-0.0 c.from_residual-in_err-settle.ensures.1 (c.in_err-settle.ensures.refused terms made low a2)

pub returns-in_err-send-clause-refused : goal.returns-in_err-send-clause-refused
returns-in_err-send-clause-refused g c = λ terms made low a0.
    let a1 = c.in_ok-turns.ensures.refused terms made low a0 in
    let a2 = c.in_ok-pages.ensures.refused terms made low a1 in
    let a3 = c.in_ok-settle.ensures.refused terms made low a2 in
    refused-handed-on g.U.Outlet.faults g.U.Outlet.fate terms made c.send.new.self c.args.node c.from_residual-in_err-send.result c.in_err-send.field-0.0 c.from_residual-in_err-send.ensures.1 (c.in_err-send.ensures.refused terms made low a3)

pub returns-in_err-hear-clause-refused : goal.returns-in_err-hear-clause-refused
returns-in_err-hear-clause-refused g c = λ terms made low a0.
    let a1 = c.in_ok-turns.ensures.refused terms made low a0 in
    let a2 = c.in_ok-pages.ensures.refused terms made low a1 in
    let a3 = c.in_ok-settle.ensures.refused terms made low a2 in
    let a4 = c.in_ok-send.ensures.refused terms made low a3 in
    refused-handed-on g.U.Outlet.faults g.U.Outlet.fate terms made c.hear.new.self c.args.node c.from_residual-in_err-hear.result c.in_err-hear.field-0.0 c.from_residual-in_err-hear.ensures.1 (c.in_err-hear.ensures.refused terms made low a4)

pub returns-clause-refused : goal.returns-clause-refused
returns-clause-refused g c = λ terms made low a0.
    let a1 = c.in_ok-turns.ensures.refused terms made low a0 in
    let a2 = c.in_ok-pages.ensures.refused terms made low a1 in
    let a3 = c.in_ok-settle.ensures.refused terms made low a2 in
    let a4 = c.in_ok-send.ensures.refused terms made low a3 in
    let a5 = c.in_ok-hear.ensures.refused terms made low a4 in
    c.outputs.ensures.refused terms made low a5

pub returns-clause-called : goal.returns-clause-called
returns-clause-called g c =
    work-called (λ w. g.D.Disk.told w.disk) c.args.node c.args.self.now c.turns.new.self c.pages.new.self c.settle.new.self c.send.new.self c.hear.new.self c.outputs.new.self c.outputs.result
    c.in_ok-turns.ensures.called c.in_ok-pages.ensures.called c.in_ok-settle.ensures.called c.in_ok-send.ensures.called c.in_ok-hear.ensures.called c.outputs.ensures.called

pub returns-in_err-turns-clause-called : goal.returns-in_err-turns-clause-called
returns-in_err-turns-clause-called g c =
    call-broken _ c.from_residual.result (IsSettledSince (λ w. g.D.Disk.told w.disk)) c.args.node c.args.self.now c.turns.new.self c.from_residual.ensures.1
    (err-still c.args.node c.args.self.now c.turns.new.self c.in_err-turns.ensures.called)

pub returns-in_err-pages-clause-called : goal.returns-in_err-pages-clause-called
returns-in_err-pages-clause-called g c =
    call-broken _ c.from_residual-in_err-pages.result (IsSettledSince (λ w. g.D.Disk.told w.disk)) c.args.node c.args.self.now c.pages.new.self c.from_residual-in_err-pages.ensures.1
    (still-then c.args.node c.args.self.now c.turns.new.self c.pages.new.self (ok-still (MaySync (λ w. g.D.Disk.told w.disk)) c.args.node c.args.self.now c.turns.new.self c.in_ok-turns.ensures.called) (err-still c.args.node c.turns.new.self c.pages.new.self c.in_err-pages.ensures.called))

pub returns-in_err-settle-clause-called : goal.returns-in_err-settle-clause-called
returns-in_err-settle-clause-called g c =
    call-broken _ c.from_residual-in_err-settle.result (IsSettledSince (λ w. g.D.Disk.told w.disk)) c.args.node c.args.self.now c.settle.new.self c.from_residual-in_err-settle.ensures.1
    (still-then c.args.node c.args.self.now c.pages.new.self c.settle.new.self (still-then c.args.node c.args.self.now c.turns.new.self c.pages.new.self (ok-still (MaySync (λ w. g.D.Disk.told w.disk)) c.args.node c.args.self.now c.turns.new.self c.in_ok-turns.ensures.called) (ok-still (HasPatched (λ w. g.D.Disk.told w.disk)) c.args.node c.turns.new.self c.pages.new.self c.in_ok-pages.ensures.called)) (err-still c.args.node c.pages.new.self c.settle.new.self c.in_err-settle.ensures.called))

pub returns-in_err-send-clause-called : goal.returns-in_err-send-clause-called
returns-in_err-send-clause-called g c =
    call-broken _ c.from_residual-in_err-send.result (IsSettledSince (λ w. g.D.Disk.told w.disk)) c.args.node c.args.self.now c.send.new.self c.from_residual-in_err-send.ensures.1
    (still-then c.args.node c.args.self.now c.settle.new.self c.send.new.self (still-then c.args.node c.args.self.now c.pages.new.self c.settle.new.self (still-then c.args.node c.args.self.now c.turns.new.self c.pages.new.self (ok-still (MaySync (λ w. g.D.Disk.told w.disk)) c.args.node c.args.self.now c.turns.new.self c.in_ok-turns.ensures.called) (ok-still (HasPatched (λ w. g.D.Disk.told w.disk)) c.args.node c.turns.new.self c.pages.new.self c.in_ok-pages.ensures.called)) (ok-still (HasSettled (λ w. g.D.Disk.told w.disk)) c.args.node c.pages.new.self c.settle.new.self c.in_ok-settle.ensures.called)) (err-still c.args.node c.settle.new.self c.send.new.self c.in_err-send.ensures.called))

pub returns-in_err-hear-clause-called : goal.returns-in_err-hear-clause-called
returns-in_err-hear-clause-called g c =
    call-broken _ c.from_residual-in_err-hear.result (IsSettledSince (λ w. g.D.Disk.told w.disk)) c.args.node c.args.self.now c.hear.new.self c.from_residual-in_err-hear.ensures.1
    (still-then c.args.node c.args.self.now c.send.new.self c.hear.new.self (still-then c.args.node c.args.self.now c.settle.new.self c.send.new.self (still-then c.args.node c.args.self.now c.pages.new.self c.settle.new.self (still-then c.args.node c.args.self.now c.turns.new.self c.pages.new.self (ok-still (MaySync (λ w. g.D.Disk.told w.disk)) c.args.node c.args.self.now c.turns.new.self c.in_ok-turns.ensures.called) (ok-still (HasPatched (λ w. g.D.Disk.told w.disk)) c.args.node c.turns.new.self c.pages.new.self c.in_ok-pages.ensures.called)) (ok-still (HasSettled (λ w. g.D.Disk.told w.disk)) c.args.node c.pages.new.self c.settle.new.self c.in_ok-settle.ensures.called)) (ok-still (KeepsImage (λ w. g.D.Disk.told w.disk)) c.args.node c.settle.new.self c.send.new.self c.in_ok-send.ensures.called)) (err-still c.args.node c.send.new.self c.hear.new.self c.in_err-hear.ensures.called))
