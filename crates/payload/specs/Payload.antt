-- What stands in the payloads that the core reads.
-- Assumes nothing: these are definitions.
use Rattle.std.specs.Prelude.{ℕ, List, get_or, drop}
use Rattle.octets.specs.Numbers.{u16_at}
use Rattle.kinds.specs.declared.Request.{Request}
use Rattle.payload.specs.declared.Ends.{Ends}

-- "Request: address u16, type u8, four reserved bytes, perhaps four more; all after the type are ignored."
abbrev pub request_in : List ℕ → Request
request_in payload = record { address = u16_at payload 0; kind = get_or payload 2 0 }

-- "0008 with the row's own address": the address that an alive check response names
abbrev pub address_in : List ℕ → ℕ
address_in payload = u16_at payload 0

-- "Payload: source u16, target u16, user data."
abbrev pub ends_in : List ℕ → Ends
ends_in payload = record { source = u16_at payload 0; target = u16_at payload 2 }

abbrev pub user_data_in : List ℕ → List ℕ
user_data_in payload = drop 4 payload
