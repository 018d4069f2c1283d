pub mod HitLaws
pub mod TiedLaws
