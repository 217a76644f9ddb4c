-- `rows::owner_of` meets its contract. The walk: the owner among all farms is the owner among those left, the row counted from the first row of the next. A farm
-- has a row at least, so a farm's number is no higher than the row's.
-- Assumes nothing.
use mathlib.Core.Path.{◌≡◌, sym, ap, ◌∙◌}
use Prim.Native.Nat.{ℕ, suc, ◌-◌}
use native.Mathlib.Omega.{arith}
use native.Mathlib.Numerals.{add-one}
use Rattle.sheet.specs.Rows.{owner_from, owner_of}
use Rattle.sheet.proofs.RowsLaws.{owner_here, owner_next, owner-none}
use Rattle.sheet.proofs.rows.owner_of.Goals as goal

pub returns-then-left-own : goal.returns-then-left-own
returns-then-left-own c =
    let s = c.args.s.now in
    let l = c.loop-i in
    let n = c.farm_count-i-end.result in
    let e : n - l.i ≡ suc (n - suc l.i) = omega arith in
    sym
    (sym (ap (owner_of s) c.from-left.ensures)
    ∙ l.invariant.2
    ∙ ap (λ (k : ℕ). owner_from s k l.i l.left) e
    ∙ owner_here s (n - suc l.i) l.i l.left (omega (arith, c.rows_owned-own.ensures)))

pub loop-i-preserved : goal.loop-i-preserved
loop-i-preserved c =
    let s = c.args.s.now in
    let l = c.loop-i in
    let n = c.farm_count-i-end.result in
    let o = c.rows_owned-own in
    let e : n - l.i ≡ suc (n - suc l.i) = omega arith in (
      l.invariant.0,
      omega (arith, l.invariant.1, o.ensures),
      l.invariant.2
          ∙ ap (λ (k : ℕ). owner_from s k l.i l.left) e
          ∙ owner_next s (n - suc l.i) l.i l.left (omega (arith, o.ensures))
          ∙ ap (λ (k : ℕ). owner_from s (n - suc l.i) (suc l.i) (l.left - k)) (sym o.ensures)
          ∙ ap (λ (k : ℕ). owner_from s (n - k) k (l.left - o.result)) (sym (add-one l.i)),
    )

pub returns : goal.returns
returns c =
    let s = c.args.s.now in
    let l = c.loop-i in
    let n = c.farm_count-i-end.result in
    let e : n - l.i ≡ 0 = omega arith in
    sym
    (sym (ap (owner_of s) c.from-left.ensures)
    ∙ l.invariant.2
    ∙ ap (λ (k : ℕ). owner_from s k l.i l.left) e
    ∙ owner-none s l.i l.left)
