-- `meters` meets its contract.
-- Assumes nothing.
use Rattle.std.proofs.Common.{rules}
use mathlib.Core.Path.{◌∙◌}
use native.Mathlib.Omega.{arith}
use Rattle.call_meters.proofs.MeterLaws.{slot-meters, no_meters}
use Rattle.call_meters.proofs.meters.Goals as goal

pub returns-then-from-lt-FARMS : goal.returns-then-from-lt-FARMS
returns-then-from-lt-FARMS c = λ s m. c.meters_at.ensures ∙ slot-meters s _ m _ (omega arith)

pub returns : goal.returns
returns c = λ s m. search rules ∙ no_meters s c.args.t.now m c.args.f.0 (omega arith)
