-- Whether there is a value.
use Rattle.std.proofs.Common.{◌≡◌, ◌≢◌, Bool, true, false, not, Option, Some, None, refl}
use Rattle.std.specs.Prelude.{is_some}

pub none_of : {A : Type 0} (o : Option A) (b : Bool) → is_some o ≡ not b → b ≡ true → o ≡ None
none_of None b is true_ = refl
none_of (Some x) b is true_ = let e = rw true_ at is in absurd (cc)

pub some_of : {A : Type 0} (o : Option A) (b : Bool) → is_some o ≡ not b → b ≡ false → o ≢ None
some_of None b is false_ = let e = rw false_ at is in absurd (cc)
some_of (Some x) b is false_ = λ none. cc

pub not_some : {A : Type 0} (o : Option A) → is_some o ≡ false → o ≡ None
not_some None is = refl
not_some (Some x) is = absurd (cc)
