-- An arm of the match on a reply that writes its bytes writes the item's entry.
-- Assumes nothing.
use mathlib.Core.Path.{◌≡◌, sym, ap, subst, ◌∙◌}
use mathlib.Core.List.{List}
use Prim.Native.Nat.{ℕ}
use Rattle.kinds.specs.declared.Reply.{Reply}
use Rattle.kinds.specs.declared.Item.{Item}
use Rattle.outsheet.specs.Sheet.{Entry, entry}
use Rattle.outsheet.specs.Replies.{kind_of, reply_bytes, entry_of}
use Rattle.outsheet.specs.Contracts.{Entered}

module _ (long : List ℕ) (it : Item) (r : Reply) (bs : List ℕ) (told : it.reply ≡ r) (made : bs ≡ reply_bytes it.version long r) where
  same : entry it.row.0 (kind_of r) bs ≡ entry_of long it
  same =
      ap (entry it.row.0 (kind_of r)) made
      ∙ ap (λ (q : Reply). entry it.row.0 (kind_of q) (reply_bytes it.version long q)) (sym told)

  pub arm : (out last : List ℕ) (at next : ℕ) → Entered (entry it.row.0 (kind_of r) bs) out last at next → Entered (entry_of long it) out last at next
  arm out last at next h = subst (λ (e : Entry). Entered e out last at next) same h
