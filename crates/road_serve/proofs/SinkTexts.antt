-- The bytes that a sink took in calls one after another.
use Rattle.std.proofs.Common.{◌≡◌, ◌+◌, ◌-◌, ◌^◌, min, ℕ, List, [], ◌++◌, take, drop, take-append-drop, refl, ap, sym, subst, ◌∙◌, append_assoc, append-nil}
use Rattle.std.proofs.KnownBytes.{Appends-nil, Appends-trans}
use Rattle.std.specs.Io.KnownBytes.{Appends}
use Rattle.road_serve.specs.StreamViews.{SinkView, TakesAllBut, TakesFront, Stops}
use Rattle.road_serve.specs.declared.faults.ServeFault.{ServeFault}
use Rattle.road_serve.specs.declared.faults.ServeFault.TheVariants as faults

-- nothing was taken
pub takes_none : (a : SinkView) (text : List ℕ) → TakesAllBut a a text text
takes_none a text = record { front = []; taken = Appends-nil a.contents; whole = refl }

-- all was taken
pub takes_all : (a b : SinkView) (text : List ℕ) → Appends a.contents b.contents text → TakesAllBut a b text []
takes_all a b text all = record { front = text; taken = all; whole = append-nil text }

pub taken_all : (a b : SinkView) (text : List ℕ) → TakesAllBut a b text [] → Appends a.contents b.contents text
taken_all a b text t =
    let Family : List ℕ → Type 0 = λ s. Appends a.contents b.contents s in
    subst Family (sym (append-nil t.front) ∙ t.whole) t.taken

-- equal texts and equal rests
pub takes_same : (a b : SinkView) (text text' rest rest' : List ℕ) → text ≡ text' → rest ≡ rest' → TakesAllBut a b text rest → TakesAllBut a b text' rest'
takes_same a b text text' rest rest' e f t = record { front = t.front; taken = t.taken; whole = ap (λ (r : List ℕ). t.front ++ r) (sym f) ∙ t.whole ∙ e }

-- the first n bytes of a text were taken
pub front_taken : (a b : SinkView) (text : List ℕ) (n : ℕ) → Appends a.contents b.contents (take n text) → TakesFront a b text
front_taken a b text n taken = (drop n text, record { front = take n text; taken = taken; whole = take-append-drop n text })

-- the rest was taken together with more text after it
pub takes_more : (a b c : SinkView) (text rest more rest' : List ℕ) → TakesAllBut a b text rest → TakesAllBut b c (rest ++ more) rest' → TakesAllBut a c (text ++ more) rest'
takes_more a b c text rest more rest' t u = record {
  front = t.front ++ u.front;
  taken = Appends-trans a.contents b.contents c.contents t.front u.front t.taken u.taken;
  whole = append_assoc t.front u.front rest' ∙ ap (λ (s : List ℕ). t.front ++ s) u.whole ∙ sym (append_assoc t.front rest more) ∙ ap (λ (s : List ℕ). s ++ more) t.whole;
}

-- a prefix of a text is a prefix of a longer text
pub front_longer : (a b : SinkView) (text more text' : List ℕ) → text' ≡ text ++ more → TakesFront a b text → TakesFront a b text'
front_longer a b text more text' e f = (
  f.0 ++ more,
  record {
    front = f.1.front;
    taken = f.1.taken;
    whole = sym (append_assoc f.1.front f.0 more) ∙ ap (λ (s : List ℕ). s ++ more) f.1.whole ∙ sym e;
  },
)

pub front_after : (a b c : SinkView) (text rest more : List ℕ) → TakesAllBut a b text rest → TakesFront b c (rest ++ more) → TakesFront a c (text ++ more)
front_after a b c text rest more t f = (f.0, takes_more a b c text rest more f.0 t f.1)

pub stops_longer : (a b : SinkView) (text more text' : List ℕ) (fault : ServeFault) → text' ≡ text ++ more → Stops a b text fault → Stops a b text' fault
stops_longer a b text more text' faults.OutOfMemory e s = (front_longer a b text more text' e s.0, s.1)
stops_longer a b text more text' faults.WorkersGone e s = (front_longer a b text more text' e s.0, s.1)
stops_longer a b text more text' faults.Write e s = (front_longer a b text more text' e s.0, s.1)
stops_longer a b text more text' faults.BadPlan e s = absurd s
stops_longer a b text more text' faults.Read e s = absurd s
stops_longer a b text more text' faults.TooMany e s = absurd s

pub rises_after : (a b c : ℕ) → b ≡ a → c ≡ min (b + 1) (2 ^ 64 - 1) → c ≡ min (a + 1) (2 ^ 64 - 1)
rises_after a b c e r = r ∙ ap (λ (k : ℕ). min (k + 1) (2 ^ 64 - 1)) e

pub stops_after : (a b c : SinkView) (text rest more : List ℕ) (fault : ServeFault) → TakesAllBut a b text rest → b.failures ≡ a.failures → Stops b c (rest ++ more) fault → Stops a c (text ++ more) fault
stops_after a b c text rest more faults.OutOfMemory t well s = (front_after a b c text rest more t s.0, s.1 ∙ well)
stops_after a b c text rest more faults.WorkersGone t well s = (front_after a b c text rest more t s.0, s.1 ∙ well)
stops_after a b c text rest more faults.Write t well s = (front_after a b c text rest more t s.0, rises_after a.failures b.failures c.failures well s.1)
stops_after a b c text rest more faults.BadPlan t well s = absurd s
stops_after a b c text rest more faults.Read t well s = absurd s
stops_after a b c text rest more faults.TooMany t well s = absurd s
