-- What a recorded call asks of the core, with what is lent to it.
-- Assumes nothing: this is a definition.
use Rattle.std.specs.Prelude.{ℕ, List}
use Rattle.day.specs.declared.records.Call.{Call}
use Rattle.day.specs.declared.records.Call.TheVariants.{Start, Connect, Bytes, Closed, Lost, Tick, Datagram, Controller}
use Rattle.model.specs.Table.{Outcome, connect_to, bytes_from, peer_closed_on, link_lost_of, tick, datagram_to, message_from}
use Rattle.lent.specs.Lent.{lent_start, lent_step}

-- the format's column "call"; rest are the bytes that the record ends in
abbrev pub played : Call → List ℕ → List ℕ → List ℕ → List ℕ → List ℕ → Outcome
played Start rest s t out m = lent_start s t out m
played (Connect f) rest s t out m = lent_step s t out m (connect_to f.0)
played (Bytes row) rest s t out m = lent_step s t out m (bytes_from row.0 rest)
played (Closed row) rest s t out m = lent_step s t out m (peer_closed_on row.0)
played (Lost f) rest s t out m = lent_step s t out m (link_lost_of f.0)
played Tick rest s t out m = lent_step s t out m tick
played (Datagram f) rest s t out m = lent_step s t out m (datagram_to f.0 rest)
played (Controller f controller tester) rest s t out m = lent_step s t out m (message_from f.0 controller tester rest)
