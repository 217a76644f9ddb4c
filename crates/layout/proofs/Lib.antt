pub mod MessageLaws
pub mod IdentityLaws
