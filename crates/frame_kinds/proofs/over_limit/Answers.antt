-- `frame_kinds::over_limit` meets its contract. Assumes nothing.
use mathlib.Core.Path.{◌≡◌, sym, ap}
use mathlib.Core.Bool.{true}
use Prim.Native.Nat.{ℕ, ◌≤◌, ◌<◌}
use lib.Dec.{ltb}
use borrow.Author.Tests.{lt-ltb, le-ltb}
use Rattle.frame.specs.Fields.{over_limit}
use Rattle.frame.specs.declared.Body.{Body}
use Rattle.frame.specs.declared.Body.TheVariants.{PlacePage}
use Rattle.frame_kinds.proofs.over_limit.Goals as goal

-- `frame_kinds::over_limit` meets its contract. Assumes nothing.
module _ (b : Body) (latitude longitude : ℕ) (place : b ≡ PlacePage) where
  beyond : 900 < latitude → true ≡ over_limit b latitude longitude
  beyond h = rw (place, lt-ltb 900 latitude h)

  inside : latitude ≤ 900 → ltb 1800 longitude ≡ over_limit b latitude longitude
  inside h = rw (place, le-ltb 900 latitude h)

-- by the body that was found; said so, so that a limit on a body that has none is refused by the value that differs
unlimited : {b k : Body} (latitude longitude : ℕ) → b ≡ k → over_limit k latitude longitude ≡ over_limit b latitude longitude
unlimited latitude longitude e = ap (λ (y : Body). over_limit y latitude longitude) (sym e)

pub returns-then-latitude-gt900 : goal.returns-then-latitude-gt900
returns-then-latitude-gt900 c = let s = c.args in beyond s.body s.latitude s.longitude c.in-PlacePage.is c.if-latitude-gt900.true

pub returns-else-latitude-gt900 : goal.returns-else-latitude-gt900
returns-else-latitude-gt900 c = let s = c.args in inside s.body s.latitude s.longitude c.in-PlacePage.is c.if-latitude-gt900.false

pub returns-in-CancelPage : goal.returns-in-CancelPage
returns-in-CancelPage c = let s = c.args in unlimited s.latitude s.longitude c.in-CancelPage.is

pub returns-in-SafetyDetails : goal.returns-in-SafetyDetails
returns-in-SafetyDetails c = let s = c.args in unlimited s.latitude s.longitude c.in-SafetyDetails.is
