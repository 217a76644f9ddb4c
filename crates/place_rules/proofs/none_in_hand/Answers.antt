-- `none_in_hand` meets its contract: the number is 0 exactly where each of its bytes is.
-- Assumes nothing.
use borrow.Author.Rules.{rules}
use mathlib.Core.Path.{◌≡◌, sym, ap, ◌∙◌}
use mathlib.Core.List.{List}
use Prim.Native.Nat.{ℕ}
use lib.ListN.{length}
use Rattle.std.specs.Int.{w64, from_be_bytes}
use Rattle.octets.proofs.SaysLaws.{says_of, says_same}
use Rattle.octets.proofs.ChoiceLaws.{says_eq}
use Rattle.octets.proofs.SearchLaws.{same_says}
use Rattle.wire.specs.Header.{header_size}
use Rattle.place_rules.proofs.PlaceLaws.{zeros, number_zero}
use Rattle.place_rules.proofs.none_in_hand.Goals as goal

pub returns : goal.returns
returns c =
    let head : List ℕ = c.args.head in
    let eight : length head ≡ header_size = search rules in
    let number = c.from_be_bytes in
    says_same
    (says_of
    (λ e. number_zero head eight (sym number.ensures ∙ e))
    (λ (z : head ≡ zeros header_size). number.ensures ∙ ap (from_be_bytes w64) z)
    (says_eq number.result 0))
    (same_says head (zeros header_size))
