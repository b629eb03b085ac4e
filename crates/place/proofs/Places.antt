-- The place whole: the one answer for three doubles. Assumes nothing.
use mathlib.Core.Path.{◌≡◌}
use Prim.Native.Nat.{ℕ, ◌≤◌}
use native.Mathlib.Omega.{arith}
use Rattle.std.specs.Prelude.{Option}
use Rattle.place.specs.Degrees.{kilometres_of, place_of}
use Rattle.place.specs.Desk.{Allowed, SameBits, joined, conversion_of}
use Rattle.place.specs.declared.Place.{Place}
use Rattle.place.specs.declared.Fields.{Fields}
use Rattle.place.specs.declared.Conversion.{Conversion}
use Rattle.place.specs.declared.Conversion.TheVariants.{Converted, Refused}
use Rattle.place.specs.declared.SignedTenths.{SignedTenths}
use Rattle.place.proofs.Inverse.{kilometres-inverse}
use Rattle.place.proofs.Search.{Sought, present, absent, sought, unique}
use Rattle.place.proofs.Flags.{Flagged, flagged, unflagged, signed, one-flag}

-- the allowed field values whose images have the bits of the place, or refusal 11 and the proof that there are none
pub data Answered (p : Place) : Conversion → Type 0 where
  placed : (f : Fields) → Allowed f → SameBits p (place_of f) → Answered p (Converted f)
  unplaced : ((f : Fields) → Allowed f → SameBits p (place_of f) → ⊥) → Answered p (Refused 11)

abbrev made : (south latitude west longitude depth : ℕ) → Fields
made s n w m k = record { south = s; latitude = n; west = w; longitude = m; depth = k }

module _ (p : Place) where
  join : (a b : Option SignedTenths) (d : Option ℕ) → Flagged 900 p.latitude a → Flagged 1800 p.longitude b → Sought kilometres_of 1024 p.depth d → Answered p (joined a b d)
  join a b d (flagged s n s1 h t) (flagged w m w1 l u) (present k j v) =
      let depth : k ≤ 1023 = omega arith in
      placed _ (record { south = s1; latitude = h; west = w1; longitude = l; depth = depth })
      (record { latitude = t; longitude = u; depth = v })
  join a b d (flagged s n s1 h t) (flagged w m w1 l u) (absent none) =
      unplaced (λ f ok same. let j = ok.depth in none f.depth (omega arith) same.depth)
  join a b d (flagged s n s1 h t) (unflagged none) z = unplaced (λ f ok same. none f.west f.longitude ok.west ok.longitude same.longitude)
  join a b d (unflagged none) y z = unplaced (λ f ok same. none f.south f.latitude ok.south ok.latitude same.latitude)

  pub answered : Answered p (conversion_of p)
  unfolding conversion_of
  answered = join _ _ _ (signed 900 p.latitude) (signed 1800 p.longitude) (sought kilometres_of p.depth 1024)

  pub one_place : (f g : Fields) → Allowed f → Allowed g → SameBits p (place_of f) → SameBits p (place_of g) → f ≡ g
  one_place f g a b s t =
      let fl : f.latitude ≤ 1800 = omega (arith, a.latitude) in
      let gl : g.latitude ≤ 1800 = omega (arith, b.latitude) in
      let latitude = one-flag p.latitude f.south g.south f.latitude g.latitude a.south b.south fl gl s.latitude t.latitude in
      let longitude = one-flag p.longitude f.west g.west f.longitude g.longitude a.west b.west a.longitude b.longitude s.longitude t.longitude in
      let depth = unique kilometres-inverse p.depth f.depth g.depth a.depth b.depth s.depth t.depth in
      let e : made f.south f.latitude f.west f.longitude f.depth ≡ made g.south g.latitude g.west g.longitude g.depth = cc in
      e
