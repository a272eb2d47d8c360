-- What the readers and writers of this crate are (this profile).
use Rattle.std.specs.Prelude.{ℕ, List}

-- octets that were written, the number of calls that failed, and for how many octets more there is memory already
pub record GatheredModel : Type 0 where
  pub octets : List ℕ
  pub failed : ℕ
  pub room : ℕ

-- a reader or a writer of std, and the number of its calls that failed
pub record CountedModel (T : Type 0) : Type 0 where
  pub inner : T
  pub failed : ℕ
