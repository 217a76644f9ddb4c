-- Connect, peer closed and link lost: from what the code has done to the call's outcome.
-- Assumes nothing.
use Rattle.std.proofs.Common.{Option, Some, None}
use Prim.Native.Nat.{ℕ, ◌+◌, ◌*◌, ◌≤◌, ◌<◌}
use mathlib.Core.Path.{◌≡◌, refl, sym, ap, ◌∙◌, subst}
use mathlib.Core.Bool.{Bool, true, false}
use mathlib.Core.List.{List, [], ◌++◌}
use native.Mathlib.Omega.{arith}
use lib.ListN.{length, take, drop, set, take-append-drop}
use Rattle.octets.specs.Choice.{pick}
use Rattle.octets.specs.Parts.{part}
use Rattle.octets.specs.Put.{put_at}
use Rattle.octets.specs.Search.{first_at}
use Rattle.octets.proofs.PartsLaws.{mid_put, length_part}
use Rattle.sheet.specs.Sheet.{most_farms, farm_count, farm_no}
use Rattle.sheet.specs.Rows.{first_row, rows_owned, owner_of}
use Rattle.outsheet.specs.Sheet.{sheet_of}
use Rattle.outsheet.specs.Replies.{entries_of}
use Rattle.outsheet.specs.Contracts.{Wrote}
use Rattle.model.specs.FarmSheet.{farm_sheet}
use Rattle.model.specs.Row.{row_at, fresh_row, is_free, is_open}
use Rattle.model.specs.Farm.{with_row}
use Rattle.model.specs.Move.{connect, peer_closed, link_lost, refused, moves, connected_at, connects, peer_gone, link_gone, move}
use Rattle.model.specs.Table.{connect_to, peer_closed_on, link_lost_of, Did, refuses, moved_to, whose}
use Rattle.table.specs.Layout.{block_size, table_size}
use Rattle.table.specs.Block.{farm_of, Holds}
use Rattle.table.proofs.BlockLaws.{exact, settled}
use Rattle.farm.specs.Connected.{connected_farm}
use Rattle.lent.specs.declared.Answer.{Answer}
use Rattle.lent.specs.Lent.{block, Only, held_at, lent_table, lent_step}
use Rattle.lent.specs.Gate.{Passed}
use Rattle.lent.specs.Served.{refusal, done, memory, Served}
use Rattle.lent.proofs.CallLaws.{refused_as}
use Rattle.lent.proofs.ServedLaws.{served-did}
use Rattle.serve.specs.Ready.{Ready}
use Rattle.serve.specs.Moved.{Moved, ConnectedAt}
use Rattle.serve.proofs.ServeLaws.{ready_of, farm_goes, row_goes, left_moved, moved_served}

-- a block put back as it was
put_same : (t : List ℕ) (a n : ℕ) → a + n ≤ length t → put_at t a (part t a n) ≡ t
put_same t a n h =
    sym (mid_put t (part t a n) a n (length_part t a n h))
    ∙ ap (λ (x : List ℕ). take a t ++ x) (take-append-drop n (drop a t))
    ∙ take-append-drop a t

-- the block means the farm that it meant, so it is the block that it was
pub still_same : (s t after : List ℕ) (f : ℕ) → Ready s t f → f < most_farms → Only f t after → Holds (block after f) (farm_of (block t f)) → after ≡ t
still_same s t after f r h only holds =
    only.put
    ∙ ap (put_at t (f * block_size)) (settled (block after f) (farm_of (block t f)) holds ∙ exact (block t f) r.whole)
    ∙ put_same t (f * block_size) block_size (omega (arith, r.long, h))

module _ (s t out m : List ℕ) (p : Passed s t out m) (long : length t ≡ table_size) where
  -- ---- link lost

  pub link_served : (f : ℕ) (after output : List ℕ) (a : Answer) → f < farm_count s
      → Moved f (link_gone (farm_sheet s f) (farm_of (block t f))) t out after output a
      → Served s (lent_step s t out m (link_lost_of f)) a (memory t out m) (memory after output m)
  unfolding whose move held_at
  link_served f after output a h x =
      moved_served s t out m p long (link_lost_of f) f (link_gone (farm_sheet s f) (farm_of (block t f))) after output a h
      (farm_goes s t out m p long (link_lost_of f) f link_lost refl h) x

  -- ---- peer closed

  peer_goes : (r f seat : ℕ) → owner_of s r ≡ Some (farm_no f, seat) → f < farm_count s → (b : Bool) → is_open (row_at (farm_of (block t f)).rows seat) ≡ b
      → lent_step s t out m (peer_closed_on r)
      ≡ moved_to (lent_table s t m) f (pick b (moves (held_at s t m f) (peer_gone (farm_sheet s f) seat (farm_of (block t f)))) (refused 6))
  unfolding whose move held_at
  peer_goes r f seat o h b e =
      row_goes s t out m p long (peer_closed_on r) r f seat (λ i. peer_closed i) refl o h
      ∙ ap
      (λ (x : Bool). moved_to (lent_table s t m) f (pick x (moves (held_at s t m f) (peer_gone (farm_sheet s f) seat (farm_of (block t f)))) (refused 6)))
      e

  -- "6 | row not open"
  pub peer_not_open : (r f seat : ℕ) → owner_of s r ≡ Some (farm_no f, seat) → f < farm_count s → is_open (row_at (farm_of (block t f)).rows seat) ≡ false
      → lent_step s t out m (peer_closed_on r) ≡ refuses 6
  peer_not_open r f seat o h e = peer_goes r f seat o h false e

  pub peer_served : (r f seat : ℕ) (after output : List ℕ) (a : Answer) → owner_of s r ≡ Some (farm_no f, seat) → f < farm_count s
      → is_open (row_at (farm_of (block t f)).rows seat) ≡ true → Moved f (peer_gone (farm_sheet s f) seat (farm_of (block t f))) t out after output a
      → Served s (lent_step s t out m (peer_closed_on r)) a (memory t out m) (memory after output m)
  peer_served r f seat after output a o h e x =
      moved_served s t out m p long (peer_closed_on r) f (peer_gone (farm_sheet s f) seat (farm_of (block t f))) after output a h (peer_goes r f seat o h true e) x

  -- ---- connect

  connect_goes : (f : ℕ) → f < farm_count s → (found : Option ℕ) → found ≡ first_at is_free 0 (take (rows_owned s f) (farm_of (block t f)).rows)
      → lent_step s t out m (connect_to f) ≡ moved_to (lent_table s t m) f (connected_at (farm_sheet s f) (held_at s t m f) found)
  unfolding whose move held_at connects farm_sheet
  connect_goes f h found e =
      farm_goes s t out m p long (connect_to f) f connect refl h
      ∙ sym (ap (λ (x : Option ℕ). moved_to (lent_table s t m) f (connected_at (farm_sheet s f) (held_at s t m f) x)) e)

  module _ (f rows : ℕ) (after : List ℕ) (found : Option ℕ) (h : f < farm_count s) (n : rows ≡ rows_owned s f) (x : ConnectedAt f rows t after found) where
    is_found : found ≡ first_at is_free 0 (take (rows_owned s f) (farm_of (block t f)).rows)
    is_found = x.connected.is ∙ ap (λ (k : ℕ). first_at is_free 0 (take k (farm_of (block t f)).rows)) n

    below : f < most_farms
    below = omega (arith, h, p.lendable.sheet.head.farms_at_most)

    -- "8 | connect, and the farm has no free row": nothing has changed
    pub connect-refused : (a : Answer) → found ≡ None → a ≡ refusal 8
        → Served s (lent_step s t out m (connect_to f)) a (memory t out m) (memory after out m)
    connect-refused a e k =
        subst (λ (y : List ℕ). Served s (lent_step s t out m (connect_to f)) a (memory t out m) (memory y out m))
        (sym
        (still_same s t after f (ready_of s t out m p long f h) below x.only
        (subst (λ (y : Option ℕ). Holds (block after f) (connected_farm (farm_of (block t f)) y)) e x.connected.held)))
        (refused_as s (lent_step s t out m (connect_to f)) 8 a (memory t out m) k (connect_goes f h None (sym e ∙ is_found)))

    connect_did : ℕ → Did
    connect_did seat =
        record {
          row = first_row s f + seat;
          took = 0;
          items = [];
          long = [];
          table = set (lent_table s t m) f (record { farm = with_row (farm_of (block t f)) seat fresh_row; rooms = (held_at s t m f).rooms });
        }

    pub connect-served : (seat row : ℕ) (output : List ℕ) (a : Answer) (k : ℕ) → found ≡ Some seat → row ≡ first_row s f + seat → a ≡ done row 0 k
        → Wrote (sheet_of (entries_of [] [])) out output k → Served s (lent_step s t out m (connect_to f)) a (memory t out m) (memory after output m)
    unfolding held_at farm_sheet connect_did
    connect-served seat row output a k e r i w =
        subst (λ (y : Answer). Served s (lent_step s t out m (connect_to f)) y (memory t out m) (memory after output m)) (sym (i ∙ ap (λ (y : ℕ). done y 0 k) r))
        (served-did s (lent_step s t out m (connect_to f)) (connect_did seat) t out m after output m k p.lendable.sheet
        (connect_goes f h (Some seat) (sym e ∙ is_found))
        (left_moved s t out m p long (connect_did seat) f (with_row (farm_of (block t f)) seat fresh_row) after below x.only
        (subst (λ (y : Option ℕ). Holds (block after f) (connected_farm (farm_of (block t f)) y)) e x.connected.held) refl)
        w)
