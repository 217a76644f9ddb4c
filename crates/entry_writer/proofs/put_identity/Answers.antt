-- `put_identity` meets its contract, with a record lent and without.
-- Assumes nothing.
use mathlib.Core.Path.{◌≡◌, refl, sym}
use native.Mathlib.Omega.{arith}
use lib.ListN.{length}
use borrow.Author.Tests.{eq-eqb, ne_eqb}
use Rattle.layout.specs.FarmRecord.{farm_record_size}
use Rattle.layout.specs.Layout.{identity_bytes}
use Rattle.layout.proofs.IdentityLaws.{length_identity}
use Rattle.outsheet.specs.Sheet.{entry, entry_bytes}
use Rattle.outsheet.specs.Replies.{send, identity_of}
use mathlib.Core.List.{List}
use Prim.Native.Nat.{ℕ}
use Rattle.outsheet.specs.Contracts.{Fits}
use Rattle.outsheet.proofs.SheetLaws.{entered}
use Rattle.entry_writer.proofs.put_identity.Goals as goal

-- what is asked for, where a record is lent
fits : (row version at room : ℕ) (farm : List ℕ) → length farm ≡ farm_record_size → Fits (entry row send (identity_of version farm)) at room
    → Fits (entry row send (identity_bytes version farm)) at room
fits row version at room farm is h = rw (eq-eqb (length farm) farm_record_size is) at h

pub put_identity-requires-clause-at_in_bounds : goal.put_identity-requires-clause-at_in_bounds
put_identity-requires-clause-at_in_bounds c =
    let a = c.args in
    let is = c.if-farm-eq-RECORD.true in
    omega (arith, (fits _ _ _ _ _ is c.requires).wide, length_identity a.version a.farm.now is, c.put_head.auto.out)

pub returns-then-farm-eq-RECORD : goal.returns-then-farm-eq-RECORD
returns-then-farm-eq-RECORD c =
    let a = c.args in
    let is = c.if-farm-eq-RECORD.true in
    rw (eq-eqb (length a.farm.now) farm_record_size is)
    (entered a.row.0 send _ (identity_bytes a.version a.farm.now) a.out.now _ _ a.at _ _ (sym (length_identity a.version a.farm.now is)) (fits _ _ _ _ _ is c.requires) c.put_head.ensures refl c.put_identity.ensures refl)

pub returns-else-farm-eq-RECORD : goal.returns-else-farm-eq-RECORD
unfolding entry_bytes
returns-else-farm-eq-RECORD c =
    let a = c.args in
    rw (ne_eqb (length a.farm.now) farm_record_size c.if-farm-eq-RECORD.false)
    (record { place = refl; bytes = c.put_head-else-farm-eq-RECORD.ensures })
