pub mod DatagramLaws
