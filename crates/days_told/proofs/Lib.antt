pub mod ToldClaim
