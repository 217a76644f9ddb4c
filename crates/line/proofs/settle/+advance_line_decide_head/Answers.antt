-- `settle::decide_head` and `settle::advance_line` meet their contracts: each call has fewer waiters, or as many and the head gone.
-- Assumes nothing.
use mathlib.Core.Path.{◌≡◌, sym, ap, subst, ◌∙◌}
use mathlib.Core.List.{List}
use Prim.Native.Nat.{ℕ}
use native.Mathlib.Omega.{arith}
use lib.ListN.{length, drop, length-drop}
use Rattle.std.proofs.lemmas.Option.{slice_get_within}
use Rattle.kinds.specs.declared.HeadVerdict.{HeadVerdict}
use Rattle.model.specs.FarmSheet.{FarmSheet}
use Rattle.model.specs.Farm.{Farm, and_then}
use Rattle.model.specs.Line.{advanced, head_verdict, settle_line}
use Rattle.model.specs.RuleTest.{is_pending}
use Rattle.table.specs.Block.{farm_of}
use Rattle.decide.specs.SiteSheet.{site_sheet}
use Rattle.closing.specs.Did.{Seated}
use Rattle.closing.proofs.DidLaws.{did_same, did_nothing, did_then, then_assoc}
use Rattle.rowwork.specs.Acted.{acted}
use Rattle.line_join.proofs.LineLaws.{seated_rest, acted-line, advanced-line, settle-none, settle_pending, settle_acts}
use Rattle.line.proofs.settle.+advance_line_decide_head.Goals as goal

pub advance_line-decide_head-requires : goal.advance_line-decide_head-requires
advance_line-decide_head-requires t c =
    let own : FarmSheet = site_sheet c.args.site in
    let f : Farm = farm_of c.args.b.now in
    let a = c.advance.ensures in
    let rest : List ℕ = drop 1 f.line in
    let e : (farm_of c.advance.new.b).line ≡ rest = ap (λ (x : Farm). x.line) a.is ∙ advanced-line own rest f in (
      omega (arith, ap length e, length-drop 1 f.line, c.decreases, c.requires.0),
      (subst Seated (sym e) (seated_rest f.line c.requires.1), c.requires.2, a.whole),
    )

pub advance_line-returns : goal.advance_line-returns
advance_line-returns t c =
    let own : FarmSheet = site_sheet c.args.site in
    let f : Farm = farm_of c.args.b.now in
    let a = c.advance.ensures in
    let rest : List ℕ = drop 1 f.line in
    let e : (farm_of c.advance.new.b).line ≡ rest = ap (λ (x : Farm). x.line) a.is ∙ advanced-line own rest f in
    did_then _ (settle_line own rest) a (did_same _ (ap (λ (l : List ℕ). settle_line own l (farm_of c.advance.new.b)) e) c.decide_head.ensures)

pub decide_head-returns-in_default : goal.decide_head-returns-in_default
decide_head-returns-in_default t c =
    let own : FarmSheet = site_sheet c.args.site in
    let f : Farm = farm_of c.args.b.now in
    did_same _ (sym (settle-none own f f.line (sym c.head.ensures ∙ c.in_default.is))) (did_nothing c.args.p.now c.args.b.now c.requires.2)

-- the head is not decided yet
pub decide_head-returns-then-is_pending : goal.decide_head-returns-then-is_pending
decide_head-returns-then-is_pending t c =
    let own : FarmSheet = site_sheet c.args.site in
    let f : Farm = farm_of c.args.b.now in
    let some = sym c.head.ensures ∙ c.in-Some.is in
    let v = ap is_pending (sym c.head_verdict-v.ensures) ∙ sym c.is_pending.ensures ∙ c.if-is_pending.true in
    did_same _ (sym (settle_pending own f f.line c.in-Some.head some v)) (did_nothing c.args.p.now c.args.b.now c.requires.2)

pub decide_head-advance_line-requires : goal.decide_head-advance_line-requires
decide_head-advance_line-requires t c =
    let own : FarmSheet = site_sheet c.args.site in
    let f : Farm = farm_of c.args.b.now in
    let h : ℕ = c.in-Some.head in
    let w = c.act.ensures in
    let e : (farm_of c.act.new.b).line ≡ f.line = ap (λ (x : Farm). x.line) w.is ∙ acted-line own h c.wanted-a.result c.head_verdict-v.result f in (
      omega (arith, ap length e, c.decreases),
      (
        omega (arith, ap length e, slice_get_within f.line 0 h (sym c.head.ensures ∙ c.in-Some.is)),
        subst Seated (sym e) c.requires.0,
        c.requires.1,
        w.whole,
      ),
    )

pub decide_head-returns : goal.decide_head-returns
decide_head-returns t c =
    let own : FarmSheet = site_sheet c.args.site in
    let f : Farm = farm_of c.args.b.now in
    let h : ℕ = c.in-Some.head in
    let some = sym c.head.ensures ∙ c.in-Some.is in
    let v = ap is_pending (sym c.head_verdict-v.ensures) ∙ sym c.is_pending.ensures ∙ c.if-is_pending.false in
    let w = c.act.ensures in
    let e : (farm_of c.act.new.b).line ≡ f.line = ap (λ (x : Farm). x.line) w.is ∙ acted-line own h c.wanted-a.result c.head_verdict-v.result f in
    let rest : List ℕ = drop 1 f.line in
    let x =
    did_same _
    (ap (λ (u : HeadVerdict). acted own h c.wanted-a.result u f) c.head_verdict-v.ensures
    ∙ ap (λ (n : ℕ). acted own h n (head_verdict own f h) f) c.wanted-a.ensures)
    w
    in
    let y =
    did_same _
    (ap (λ (l : List ℕ). and_then (advanced own (drop 1 l) (farm_of c.act.new.b)) (settle_line own (drop 1 l))) e)
    c.advance_line.ensures
    in
    did_same _ (then_assoc _ (advanced own rest) (settle_line own rest) ∙ sym (settle_acts own f f.line h some v))
    (did_then _ (λ g. and_then (advanced own rest g) (settle_line own rest)) x y)
