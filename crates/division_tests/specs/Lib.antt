pub mod Ballot
