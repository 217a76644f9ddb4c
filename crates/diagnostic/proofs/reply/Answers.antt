-- `reply` meets its contract.
-- Assumes nothing.
use mathlib.Core.Path.{sym, ap, ◌∙◌}
use mathlib.Core.List.{List}
use Rattle.kinds.specs.declared.Item.{Item}
use Rattle.kinds.specs.declared.Reply.TheVariants.{Ack, DiagnosticNack, HandOn}
use Rattle.model.specs.FarmSheet.{FarmSheet}
use Rattle.model.specs.Farm.{says}
use Rattle.plan.specs.Plan.{pushed_to}
use Rattle.decide.specs.SiteSheet.{site_sheet}
use Rattle.closing.specs.Did.{pushed_all}
use Rattle.closing.proofs.DidLaws.{pushed_one}
use Rattle.diagnostic.proofs.DiagnosticLaws.{said_twice, replies_on, replies-refused}
use Rattle.diagnostic.proofs.reply.Goals as goal

pub returns-then-code-eq-GOES_ON : goal.returns-then-code-eq-GOES_ON
returns-then-code-eq-GOES_ON c = let s = c.args in
    let own : FarmSheet = site_sheet s.site in
    let said : List Item = s.p.now in
    let on : Item = says own s.seat HandOn in
    c.say-then-code-eq-GOES_ON.ensures
    ∙ ap (λ (l : List Item). pushed_to l on) c.say.ensures
    ∙ said_twice said (says own s.seat (Ack s.e.target s.e.source s.code)) on
    ∙ ap (pushed_all said) (replies_on own s.seat s.e s.code c.if-code-eq-GOES_ON.true)

pub returns : goal.returns
returns c = let s = c.args in
    let own : FarmSheet = site_sheet s.site in
    let said : List Item = s.p.now in
    c.say-2.ensures
    ∙ sym (pushed_one said (says own s.seat (DiagnosticNack s.e.target s.e.source s.code)))
    ∙ ap (pushed_all said) (replies-refused own s.seat s.e s.code c.if-code-eq-GOES_ON.false)
