-- What a call of a farm notes in the logs of its rows.
-- Assumes nothing.
use Prim.Native.Nat.{ℕ, suc, ◌+◌, ◌<◌}
use mathlib.Core.Path.{◌≡◌, refl, sym, ap, subst, ◌∙◌}
use mathlib.Core.Bool.{false}
use mathlib.Core.List.{List, [], ◌∷◌, ◌++◌}
use native.Mathlib.Omega.{arith}
use lib.Dec.{eqb}
use lib.ListN.{length, take, length-append}
use borrow.Author.Tests.{eqb-true, eqb-false}
use Rattle.kinds.specs.declared.Row.{Row}
use Rattle.model.specs.FarmSheet.{FarmSheet}
use Rattle.model.specs.Row.{boundary, no_head, row_of, row_at, in_hand_at, in_hand, older, heard_state}
use Rattle.model.specs.Stream.{Stream, stream_of, Fed, more, ends, feed, takes_by, takes, ended_by}
use Rattle.model.specs.Farm.{Farm, wrap}
use Rattle.model.specs.Bytes.{heard_row, heard, taken_by}
use Rattle.model.specs.Rule.{Good}
use Rattle.model.specs.Meter.{Log, took, filed_by, finished_in, finished_on, lost_on}
use Rattle.model.proofs.Cases.{split}
use Rattle.model.proofs.Rows.{row-set, row_same, row-map, open_in}
use Rattle.model.proofs.MeterBalance.{wrap_left, closing, fits_of, takes_balance}
use Rattle.model.proofs.MeterDoings.{Laws}
use Rattle.model.proofs.MeterMove.{Talks, heard_open, heard_hand, Hears}
use Rattle.model.proofs.MeterStream.{Stands, stands_hand, Lands, takes_lands, lands_hand}
use Rattle.model.proofs.MeterLog.{all_on, sum_same, sum_one, Tied, tied_open, open_tied, tied_still, tied_older, Counted, Logged, counted_same, logged_same, after, filed_quiet, closed_counted, closed_tied, closed_logged}

-- ---- everything but the taking of bytes

pub logged_laws : (own : FarmSheet) (T : ℕ) (L : ℕ → Log) → Laws own (λ is f. Logged own T (after own is L) f)
logged_laws own T L =
    record {
      closes = λ is seat f b h. closed_logged own T is L seat b f h;
      puts =
          λ is seat s f b o e h.
          record {
            counted = record { taken = h.counted.taken; finished = h.counted.finished; lost = h.counted.lost; each = h.counted.each };
            tied =
                λ i l.
                row-set f.rows seat i (row_of s) (λ (y : Row). Tied y (after own is L i))
                (λ z _. subst (λ (k : ℕ). Tied (row_of s) (after own is L k)) (sym z)
                (tied_open s boundary no_head (after own is L seat).now o
                (tied_still (row_at f.rows seat).state (row_at f.rows seat).place (row_at f.rows seat).head (after own is L seat).now (h.tied seat b) e)))
                (h.tied i l);
          };
      speaks = λ is it f e h. logged_same own T (after own is L) (after own (is ++ (it ∷ [])) L) f (λ i _. filed_quiet (own.first + i) is it (L i) e) h;
      lines =
          λ is f line clock marks h.
          record { counted = record { taken = h.counted.taken; finished = h.counted.finished; lost = h.counted.lost; each = h.counted.each }; tied = h.tied };
      ages =
          λ is f h.
          record {
            counted = record { taken = h.counted.taken; finished = h.counted.finished; lost = h.counted.lost; each = h.counted.each };
            tied =
                λ i l. subst (λ (y : Row). Tied y (after own is L i)) (sym (row-map older refl f.rows i))
                (tied_older (row_at f.rows i).state (row_at f.rows i).place (row_at f.rows i).head (after own is L i).now (h.tied i l));
          };
    }

-- ---- the taking of bytes

-- a call takes no more than there is
pub takes-some : (s : Stream) (input : List ℕ) → length (take (takes s input).count input) ≡ (takes s input).count
unfolding takes
takes-some s [] = refl
takes-some s (byte ∷ bytes) = go (feed s byte) (λ t. takes-some t bytes)
  where
    go : (x : Fed) → ((t : Stream) → length (take (takes t bytes).count bytes) ≡ (takes t bytes).count)
        → length (take (takes_by x (λ t. takes t bytes)).count (byte ∷ bytes)) ≡ (takes_by x (λ t. takes t bytes)).count
    go (more t) ih = ap suc (ih t)
    go (ends e t) ih = refl

-- the logs L become M: the seat's with the bytes taken, the others as they were
pub record Notes (seat : ℕ) (bytes : List ℕ) (L M : ℕ → Log) : Type 0 where
  pub this : M seat ≡ took bytes (L seat)
  pub others : (i : ℕ) → (i ≡ seat → ⊥) → M i ≡ L i

took-finished : (l : Log) (bytes : List ℕ) (n : ℕ) → finished_in (l.now ++ bytes) ≡ finished_in l.now + n
    → finished_on (took bytes l) ≡ finished_on l + n
took-finished l bytes n e = omega arith

took-all : (l : Log) (bytes : List ℕ) (n : ℕ) → length bytes ≡ n → all_on (took bytes l) ≡ all_on l + n
took-all l bytes n e = omega (arith, length-append l.now bytes)

module _ {own : FarmSheet} {f : Farm} (good : Good own f) (seat : ℕ) (b : seat < own.rows) (talks : Talks (row_at f.rows seat).state)
    (room input : List ℕ) (T : ℕ) (L M : ℕ → Log) (notes : Notes seat (take (taken_by seat room input f).count input) L M) (h : Logged own T L f) where
  s : Stream
  s = stream_of (row_at f.rows seat).place (row_at f.rows seat).head room

  now : List ℕ
  now = (L seat).now ++ take (takes s input).count input

  stood : Stands (L seat).now (row_at f.rows seat).place (row_at f.rows seat).head
  stood = open_tied (row_at f.rows seat).state (row_at f.rows seat).place (row_at f.rows seat).head (L seat).now talks.0 (h.tied seat b)

  lands : Lands (takes s input).event now (takes s input).stream
  unfolding s now
  lands = takes_lands (L seat).now s input stood

  now-is : (M seat).now ≡ now
  unfolding s now
  now-is = ap (λ (x : Log). x.now) notes.this

  finished-more : finished_in now ≡ finished_in (L seat).now + ended_by (takes s input).event (takes s input).stream
  unfolding s now
  finished-more =
      omega (
        arith,
        stands_hand stood,
        lands_hand (takes s input).event now (takes s input).stream lands,
        takes_balance s input (fits_of (row_at f.rows seat).place (row_at f.rows seat).head (good.possible seat)),
        length-append (L seat).now (take (takes s input).count input),
        takes-some s input,
      )

  heard_counted : Counted own (T + (takes s input).count) M (heard seat (takes s input) f)
  unfolding heard s now
  heard_counted =
      record {
        taken = ap (λ (n : ℕ). wrap (n + (takes s input).count)) h.counted.taken ∙ wrap_left T (takes s input).count;
        finished =
            ap (λ (n : ℕ). wrap (n + ended_by (takes s input).event (takes s input).stream)) h.counted.finished ∙ wrap_left _ _ ∙
            ap wrap
            (sym (sum_one (λ i. finished_on (L i)) (λ i. finished_on (M i)) seat (ended_by (takes s input).event (takes s input).stream) own.rows b
            (λ i n. ap finished_on (notes.others i n))
            (ap finished_on notes.this ∙
            took-finished (L seat) (take (takes s input).count input) (ended_by (takes s input).event (takes s input).stream) finished-more)));
        lost =
            h.counted.lost ∙
            ap wrap
            (sym (sum_same (λ i. lost_on (L i)) (λ i. lost_on (M i)) own.rows
            (λ i _. split (eqb i seat) (λ t. same i (eqb-true i seat t)) (λ t. ap lost_on (notes.others i (eqb-false i seat t))))));
        each =
            ap (λ (n : ℕ). n + (takes s input).count) h.counted.each ∙
            sym (sum_one (λ i. all_on (L i)) (λ i. all_on (M i)) seat (takes s input).count own.rows b (λ i n. ap all_on (notes.others i n))
            (ap all_on notes.this ∙ took-all (L seat) (take (takes s input).count input) (takes s input).count (takes-some s input)));
      }
    where
      same : (i : ℕ) → i ≡ seat → lost_on (M i) ≡ lost_on (L i)
      same i e = subst (λ (k : ℕ). lost_on (M k) ≡ lost_on (L k)) (sym e) (ap lost_on notes.this)

  -- the other rows stand where they stood
  heard_others : (i : ℕ) → i < own.rows → (i ≡ seat → ⊥) → Tied (row_at (heard seat (takes s input) f).rows i) (M i)
  unfolding heard s
  heard_others i l n =
      subst (Tied (row_at (heard seat (takes s input) f).rows i)) (sym (notes.others i n))
      (row-set f.rows seat i (heard_row (takes s input).count (takes s input).stream (row_at f.rows seat)) (λ (y : Row). Tied y (L i))
      (λ e _. absurd (n e)) (h.tied i l))

  heard-row : row_at (heard seat (takes s input) f).rows seat ≡ heard_row (takes s input).count (takes s input).stream (row_at f.rows seat)
  unfolding heard s
  heard-row = row_same f.rows seat (heard_row (takes s input).count (takes s input).stream (row_at f.rows seat)) (open_in f.rows seat talks.0)

  heard_this : closing (takes s input).event ≡ false → Tied (row_at (heard seat (takes s input) f).rows seat) (M seat)
  heard_this c =
      subst (λ (y : Row). Tied y (M seat)) (sym heard-row)
      (tied_open (heard_state (takes s input).count (row_at f.rows seat).state) (takes s input).stream.place (takes s input).stream.head (M seat).now
      (heard_open (takes s input).count (row_at f.rows seat).state ∙ talks.0)
      (subst (λ (x : List ℕ). Stands x (takes s input).stream.place (takes s input).stream.head) (sym now-is) (lands.goes c)))

  heard_logged : closing (takes s input).event ≡ false → Logged own (T + (takes s input).count) M (heard seat (takes s input) f)
  heard_logged c =
      record {
        counted = heard_counted;
        tied =
            λ i l. split (eqb i seat)
            (λ t. subst (λ (k : ℕ). Tied (row_at (heard seat (takes s input) f).rows k) (M k)) (sym (eqb-true i seat t)) (heard_this c))
            (λ t. heard_others i l (eqb-false i seat t));
      }

  -- after a header that closes, all bytes are finished and none is in hand
  shut_hand : finished_in (M seat).now + in_hand (row_at (heard seat (takes s input) f).rows seat) ≡ length (M seat).now
  shut_hand =
      let a : in_hand (row_at (heard seat (takes s input) f).rows seat) ≡ in_hand_at (takes s input).stream.place =
      ap in_hand heard-row ∙ heard_hand good seat talks (takes s input) in
      subst (λ (x : List ℕ). finished_in x + in_hand (row_at (heard seat (takes s input) f).rows seat) ≡ length x) (sym now-is)
      (omega (arith, a, lands_hand (takes s input).event now (takes s input).stream lands))

  pub hears_logged : Hears own (λ is x. Logged own (T + (taken_by seat room input f).count) (after own is M) x) seat (taken_by seat room input f) f
  unfolding s filed_by
  hears_logged =
      record {
        goes = heard_logged;
        shuts =
            λ _ it e.
            let same : (i : ℕ) → filed_by (own.first + i) (it ∷ []) (M i) ≡ M i = λ i. filed_quiet (own.first + i) [] it (M i) e in
            record {
              counted =
                  closed_counted own (T + (takes s input).count) (it ∷ []) M seat b (heard seat (takes s input) f)
                  (subst (λ (x : Log). finished_in x.now + in_hand (row_at (heard seat (takes s input) f).rows seat) ≡ length x.now) (sym (same seat)) shut_hand)
                  (counted_same own (T + (takes s input).count) M (after own (it ∷ []) M) (heard seat (takes s input) f) (λ i _. same i) heard_counted);
              tied =
                  closed_tied own (T + (takes s input).count) (it ∷ []) M seat b (heard seat (takes s input) f)
                  (λ i l n. subst (Tied (row_at (heard seat (takes s input) f).rows i)) (sym (same i)) (heard_others i l n));
            };
      }
