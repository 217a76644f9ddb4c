-- The meters as C has them.
-- Assumes nothing: this is a definition.
use Rattle.kinds.specs.declared.Meters.{Meters}
use Rattle.dokrawin.specs.declared.FarmMeters.{FarmMeters}

abbrev pub meters_of : FarmMeters → Meters
meters_of m = record { taken = m.taken; finished = m.finished; lost = m.lost }
