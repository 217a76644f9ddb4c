-- `header::judge` meets its contract: the quick way passes by the order too.
-- Assumes nothing.
use mathlib.Core.Path.{◌≡◌, sym, ◌∙◌}
use mathlib.Core.Bool.{true}
use borrow.Author.Tests.{eq-eqb}
use Rattle.wire.specs.Header.{right_pattern}
use Rattle.wire.proofs.HeaderLaws.{everyday-passes}
use Rattle.wire.proofs.header.judge.Goals as goal

pub returns-then-is_everyday : goal.returns-then-is_everyday
returns-then-is_everyday c =
    let h = c.args.h in
    let ours : right_pattern h.version h.inverse ≡ true = simp (eq-eqb _ _ c.if-h-ne3.false, eq-eqb _ _ c.if-h-ne252.false) in
    sym (everyday-passes h ours (sym c.is_everyday.ensures ∙ c.if-is_everyday.true))
