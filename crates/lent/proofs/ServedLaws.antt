-- A call is served: it was refused and nothing changed, or it was done and the memory means what the model says. And a call's contract
-- leaves no choice.
-- Assumes nothing.
use Prim.Native.Nat.{ℕ, ◌*◌}
use mathlib.Core.Path.{◌≡◌, refl, sym, ap, ◌∙◌, subst}
use mathlib.Core.Bool.{true}
use mathlib.Core.List.{List}
use lib.ListN.{length, drop}
use Rattle.octets.specs.Put.{put_at}
use Rattle.sheet.specs.Rows.{rows_in}
use Rattle.sheet.specs.Rules.{GoodSheet}
use Rattle.outsheet.specs.Contracts.{Wrote}
use Rattle.model.specs.Table.{assembling_size, Did, Outcome, refuses, did}
use Rattle.table.specs.Layout.{table_size}
use Rattle.lent.specs.declared.Answer.{Answer}
use Rattle.lent.specs.Lent.{whole_table, room_size, lent_table, table_bytes, room_bytes}
use Rattle.lent.specs.Served.{refusal, done, sheet_bytes, Memory, memory, Served}
use Rattle.lent.proofs.BytesLaws.{whole_exact, table_exact, rooms_exact}

pub served-refused : (s : List ℕ) (o : Outcome) (n : ℕ) (before : Memory) → o ≡ refuses n → Served s o (refusal n) before before
served-refused s o n before e =
    subst (λ (x : Outcome). Served s x (refusal n) before before) (sym e)
    (record { number = refl; row = refl; taken = refl; output_length = refl; table_is = refl; output_is = refl; assembling_is = refl; means = refl; whole = refl })

-- the memory after an accepted call, as the code leaves it
pub record Left (s : List ℕ) (d : Did) (m table assembling : List ℕ) : Type 0 where
  pub means : lent_table s table assembling ≡ d.table
  pub whole : whole_table table ≡ true
  pub long : length table ≡ table_size
  pub wide : length assembling ≡ assembling_size
  pub past : drop (rows_in s * room_size) assembling ≡ drop (rows_in s * room_size) m

pub served-did : (s : List ℕ) (o : Outcome) (d : Did) (t out m table output assembling : List ℕ) (n : ℕ) → GoodSheet s → o ≡ did d
    → Left s d m table assembling → Wrote (sheet_bytes d) out output n
    → Served s o (done d.row d.took n) (memory t out m) (memory table output assembling)
served-did s o d t out m table output assembling n good e l w =
    subst (λ (x : Outcome). Served s x (done d.row d.took n) (memory t out m) (memory table output assembling)) (sym e)
    (record {
      number = refl;
      row = refl;
      taken = refl;
      output_length = w.is;
      table_is = sym (table_exact s table assembling ((whole_exact table).right l.whole) l.long) ∙ ap table_bytes l.means;
      output_is = w.bytes;
      assembling_is = rooms_exact s table m assembling good l.wide l.past ∙ ap (λ x. put_at m 0 (room_bytes x)) l.means;
      means = l.means;
      whole = l.whole;
    })

-- ---- ANY TWO RESULTS THAT A CONTRACT ALLOWS ARE EQUAL

pub served-once : (s : List ℕ) (o : Outcome) (a b : Answer) (before x y : Memory) → Served s o a before x → Served s o b before y → (a ≡ b) × (x ≡ y)
served-once s o a b before x y p q = (
  rw (p.number, p.row, p.taken, p.output_length, q.number, q.row, q.taken, q.output_length),
  rw (p.table_is, p.output_is, p.assembling_is, q.table_is, q.output_is, q.assembling_is),
)
