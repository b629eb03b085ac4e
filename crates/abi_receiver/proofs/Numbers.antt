-- The numbers of states and events. Assumes nothing.
use mathlib.Core.Path.{◌≡◌, refl, ◌∙◌, sym, ap}
use mathlib.Core.List.{[], ◌∷◌}
use Prim.Native.Nat.{ℕ, ◌+◌, ◌*◌, ◌/◌, ◌%◌, ◌≤◌, ◌<◌}
use native.Mathlib.Omega.{arith}
use borrow.Author.Tests.{le-leb, lt-leb}
use Rattle.follower.specs.Follow.{event_number}
use Rattle.follower_events.specs.declared.Kind.{Kind}
use Rattle.follower_events.specs.declared.Event.{Event}
use Rattle.follower_events.specs.declared.Kind.TheVariants.{Real, Test, Safety, SafetyTest}
use Rattle.follower_events.specs.Events.{kind_number, kind_at}
use Rattle.follower.specs.declared.Follower.{Follower}
use Rattle.follower.specs.declared.Follower.TheVariants.{Quiet, Active}
use Rattle.abi.specs.Status.{status_of}
use Rattle.abi_receiver.specs.Receiver.{state_number, state_of, event_case}

-- the numbers that the header file gives, each with the update number 0
as-declared : state_number (Active Real 0) ∷ state_number (Active Test 0) ∷ state_number (Active Safety 0) ∷ state_number (Active SafetyTest 0) ∷ [] ≡ 4 ∷ 8 ∷ 12 ∷ 16 ∷ []
as-declared = refl

pub kind-small : (k : Kind) → kind_number k ≤ 4
kind-small Real = omega arith
kind-small Test = omega arith
kind-small Safety = omega arith
kind-small SafetyTest = omega arith

pub state-small : (s : Follower) → state_number s ≤ 19
state-small Quiet = omega arith
state-small (Active k u) = omega (arith, kind-small k)

-- what a `match` tells: the number of a state, an event is that of the variant it was found to be
pub active-told : {s : Follower} {m : ℕ} (k : Kind) (u : ℕ) → s ≡ Active k u → m ≡ kind_number k → 4 * m + u % 4 ≡ state_number s
active-told k u e q = ap (λ (n : ℕ). 4 * n + u % 4) q ∙ ap state_number (sym e)

pub event-told : {e : Event} {r : ℕ} (d : Event) → e ≡ d → r ≡ status_of (event_number d) (event_case d) → r ≡ status_of (event_number e) (event_case e)
event-told d q told = told ∙ ap (λ (x : Event). status_of (event_number x) (event_case x)) (sym q)

-- the state of a number, by cases
pub below-four : (n : ℕ) → n < 4 → Quiet ≡ state_of n
unfolding state_of
below-four n h = rw (lt-leb 4 n h)

pub to-nineteen : (n : ℕ) {k : Kind} → 4 ≤ n → n ≤ 19 → k ≡ kind_at (n / 4) → Active k (n % 4) ≡ state_of n
unfolding state_of
to-nineteen n h l e = rw (le-leb 4 n h, le-leb n 19 l) (ap (λ (x : Kind). Active x (n % 4)) e)

pub above-nineteen : (n : ℕ) → 19 < n → Quiet ≡ state_of n
unfolding state_of
above-nineteen n h = rw (le-leb 4 n (omega arith), lt-leb n 19 h)
