pub mod RequestLaws
