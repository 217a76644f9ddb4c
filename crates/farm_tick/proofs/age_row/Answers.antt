-- `age_row` meets its contract.
-- Assumes nothing.
use mathlib.Core.Path.{refl, sym, ◌∙◌}
use mathlib.Core.Logic.{⊎_elim}
use Rattle.table.specs.Block.{farm_of}
use Rattle.table.proofs.RowStores.{not-ticked}
use Rattle.farm_tick.proofs.TickLaws.{older-by, older-fresh, older_active}
use Rattle.farm_tick.proofs.age_row.Goals as goal

pub returns-in-Free : goal.returns-in-Free
returns-in-Free c =
    let s = c.args in
    ⊎_elim
    (λ z. let e = sym c.state_at.ensures ∙ z in older-by (farm_of s.b.now) s.i 0 _ e refl (not-ticked s.b.now c.requires.1 s.i c.requires.0 0 _ e refl))
    (λ z. let e = sym c.state_at.ensures ∙ z.1 in older-by (farm_of s.b.now) s.i 0 _ e refl (not-ticked s.b.now c.requires.1 s.i c.requires.0 0 _ e refl))
    c.in-Free.is

pub returns-in-Fresh : goal.returns-in-Fresh
returns-in-Fresh c =
    let s = c.args in
    ⊎_elim
    (λ z. older-fresh (farm_of s.b.now) s.i _ c.stepped.result (sym c.state_at.ensures ∙ z) c.stepped.ensures c.put_ticks.ensures)
    (λ z. older_active (farm_of s.b.now) s.i _ _ c.stepped.result (sym c.state_at.ensures ∙ z.1) c.stepped.ensures c.put_ticks.ensures)
    c.in-Fresh.is
