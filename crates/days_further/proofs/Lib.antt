pub mod FurtherClaim
