-- `leave` meets its contract.
-- Assumes nothing.
use mathlib.Core.Path.{◌≡◌, sym, ap, ◌∙◌}
use mathlib.Core.List.{List}
use Prim.Native.Nat.{ℕ, ◌<◌}
use native.Mathlib.Omega.{arith}
use lib.ListN.{length}
use Rattle.octets.specs.Parts.{part}
use Rattle.table.specs.Layout.{seats, seats_at}
use Rattle.table_line.proofs.LineStores.{few, Kept, kept-none, kept_few, kept_drops, kept_keeps, left-stored, kept_as}
use Rattle.octets.proofs.PartsLaws.{length_part}
use mathlib.Core.Path.{subst}
use Rattle.table_line.proofs.leave.Goals as goal
use Rattle.table_line.proofs.leave.Goals.{then-wide-seat, else-wide-seat}

pub loop-i-init : goal.loop-i-init
loop-i-init c = kept-none _ _

pub bounds-s-i : goal.bounds-s-i
bounds-s-i c = omega (arith, few c.args.b.now, c.waiting-n.ensures)

pub bounds-s-i-then-wide-seat : goal.bounds-s-i-then-wide-seat
bounds-s-i-then-wide-seat c = omega (arith, few c.args.b.now, c.waiting-n.ensures)

pub bounds-t-k : goal.bounds-t-k
bounds-t-k c = omega (arith, few c.args.b.now, c.waiting-n.ensures, kept_few _ _ _ _ _ c.loop-i.invariant)

pub overflow_add-k : goal.overflow_add-k
overflow_add-k c = omega (arith, kept_few _ _ _ _ _ c.loop-i.invariant)

pub overflow_cast-k : goal.overflow_cast-k
overflow_cast-k c = omega (arith, few c.args.b.now, c.waiting-n.ensures, kept_few _ _ _ _ _ c.loop-i.invariant)

pub returns : goal.returns
returns c =
    let b : List ℕ = c.args.b.now in
    let l = c.loop-i in
    let n = c.waiting-n in
    let z : l.i ≡ n.result = omega (arith, c.loop-i-test.false) in
    left-stored b c.requires _ l.t c.args.seat n.result l.k n.ensures
    (subst (λ (m : ℕ). Kept c.args.seat (part b seats_at seats) m l.t l.k) z
    (subst (λ (a : List ℕ). Kept c.args.seat a l.i l.t l.k) c.seats_of-s.ensures l.invariant))
    c.store.ensures

pub loop-i-preserved : goal.loop-i-preserved
loop-i-preserved c =
    let l = c.loop-i in
    let s : List ℕ = c.seats_of-s.result in
    let b : List ℕ = c.args.b.now in
    let n : length s ≡ seats = ap length c.seats_of-s.ensures ∙ length_part b seats_at seats (omega (arith, c.requires.long)) in
    let h : l.i < seats = omega (arith, few b, c.waiting-n.ensures) in
    elim c.if-wide-seat.branch [
      | then-wide-seat v ↦ kept_as v.t-is v.k-is (kept_keeps _ s l.i _ _ l.invariant (omega arith) h (λ e. v.if-wide-seat.true (c.wide.ensures ∙ sym e)))
      | else-wide-seat v ↦ kept_as v.t-is v.k-is (kept_drops _ s l.i _ _ l.invariant (omega arith) (sym v.if-wide-seat.false ∙ c.wide.ensures))
    ]
