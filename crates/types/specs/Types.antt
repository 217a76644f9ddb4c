-- "A table of types says port and lengths."
-- Assumes nothing: these are definitions.
use Rattle.std.specs.Prelude.{ℕ, Bool, List, [], ◌∷◌, eqb, leb}
use Rattle.octets.specs.Choice.{both}
use Rattle.octets.specs.Search.{some}
use Rattle.types.specs.declared.Kind.{Kind}

-- the two ports
abbrev pub tcp : ℕ
tcp = 0

abbrev pub udp : ℕ
udp = 1

-- a length without an upper limit of its own: the greatest that a header can announce
abbrev pub or_more : ℕ
or_more = 4294967295

-- a type, its port, its least and its greatest length
abbrev pub kind_of : ℕ → ℕ → ℕ → ℕ → Kind
kind_of kind port least most = record { kind = kind; port = port; least = least; most = most }

-- "TCP: 0000 (1), 0005 (7 or 11), 0008 (2), 8001 (5 or more; ours), 8002 and 8003 (5 or more). UDP: 0000, 0001 (0), 0002 (6),
-- 0003 (17), 0004 (32 or 33), 4001 (0), 4003 (0)." A type with two lengths that are not neighbours has two lines.
unfoldable pub types : List Kind
types =
    kind_of 0x8001 tcp 5 or_more
    ∷ kind_of 0x0005 tcp 7 7
    ∷ kind_of 0x0005 tcp 11 11
    ∷ kind_of 0x0008 tcp 2 2
    ∷ kind_of 0x0000 tcp 1 1
    ∷ kind_of 0x8002 tcp 5 or_more
    ∷ kind_of 0x8003 tcp 5 or_more
    ∷ kind_of 0x0000 udp 0 or_more
    ∷ kind_of 0x0001 udp 0 0
    ∷ kind_of 0x0002 udp 6 6
    ∷ kind_of 0x0003 udp 17 17
    ∷ kind_of 0x0004 udp 32 33
    ∷ kind_of 0x4001 udp 0 0
    ∷ kind_of 0x4003 udp 0 0
    ∷ []

-- the line is of this type on this port
abbrev pub is_of : ℕ → ℕ → Kind → Bool
is_of port kind k = both (eqb k.port port) (eqb k.kind kind)

-- and allows this length
abbrev pub is_of_length : ℕ → ℕ → ℕ → Kind → Bool
is_of_length port kind n k = both (is_of port kind k) (both (leb k.least n) (leb n k.most))

-- some line has this type on this port: it is known there
unfoldable pub known_on : ℕ → ℕ → Bool
known_on port kind = some (is_of port kind) types

-- and allows this length: the length is right for the type
unfoldable pub length_fits : ℕ → ℕ → ℕ → Bool
length_fits port kind n = some (is_of_length port kind n) types
