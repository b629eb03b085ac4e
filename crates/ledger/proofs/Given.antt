-- A list of frames for every ledger whose numbers allow one, all of its frames judged by one edition. Assumes nothing.
use mathlib.Core.Path.{◌≡◌, refl, sym, ap, ap₂, ◌∙◌}
use mathlib.Core.Bool.{Bool, true, false, cond}
use mathlib.Core.List.{List, [], ◌∷◌, ◌++◌, map}
use Prim.Native.Nat.{ℕ, zero, suc, ◌+◌, ◌-◌, ◌*◌, ◌≤◌, ◌<◌, min}
use native.Mathlib.Omega.{arith}
use lib.Dec.{eqb, leb}
use lib.ListN.{length, get_or, length-append}
use borrow.Author.Tests.{ne_eqb, eqb-true, eqb-false, le-leb, lt-leb, leb-true, leb-false}
use Rattle.bits.specs.Bits.{digit, Bytes}
use Rattle.bits.specs.Layout.{sum}
use Rattle.frame.specs.declared.Edition.{Edition}
use Rattle.frame.specs.declared.Verdict.{Verdict}
use Rattle.frame_verdicts.specs.Promises.{JudgedAs, verdict_refused, verdict_accepted}
use Rattle.frame_verdicts.proofs.Promises.{every-verdict}
use Rattle.ledger.specs.Counting.{Frame, frames_with, places_counted, places_repaired, refusals, ledger_of, possible, Each, Possible}
use Rattle.ledger.specs.declared.Ledger.{Ledger}
use Rattle.ledger.proofs.Possible.{possible-counts}
use Rattle.ledger.proofs.Rows.{row-all}
use Rattle.ledger.proofs.Lists.{up_from, with_append, places-append}

each_append : (P : Frame → Type 0) (fs gs : List Frame) → Each P fs → Each P gs → Each P (fs ++ gs)
each_append P [] gs a b = b
each_append P (f ∷ fs) gs (x, a) b = (x, each_append P fs gs a b)

-- frames that are judged by the edition, `size` of them, of which `having m` have the number m, with so many repaired places in all
record Part (ed : Edition) (size : ℕ) (having : ℕ → ℕ) (places : ℕ) : Type 0 where
  frames : List Frame
  all-bytes : Each (λ f. Bytes f.1) frames
  by-edition : Each (λ f. f.0 ≡ ed) frames
  counted : length frames ≡ size
  by_number : (m : ℕ) → frames_with m frames ≡ having m
  repaired : places_repaired frames ≡ places

module _ (ed : Edition) where
  none : Part ed 0 (λ m. 0) 0
  unfolding frames_with places_repaired sum
  none = record { frames = []; all-bytes = tt; by-edition = tt; counted = refl; by_number = λ m. refl; repaired = refl }

  -- a frame more, judged so
  more : (v : Verdict) {k : ℕ} {having : ℕ → ℕ} {places : ℕ} → JudgedAs ed v → Part ed k having places
      → Part ed (suc k) (λ m. digit (eqb v.number m) + having m) (places_counted v + places)
  unfolding frames_with places_repaired sum
  more v j p =
      record {
        frames = (ed, j.frame) ∷ p.frames;
        all-bytes = (j.all-bytes, p.all-bytes);
        by-edition = (refl, p.by-edition);
        counted = ap suc p.counted;
        by_number = λ m. ap₂ (λ (w : Verdict) (n : ℕ). digit (eqb w.number m) + n) j.judged (p.by_number m);
        repaired = ap₂ (λ (w : Verdict) (n : ℕ). places_counted w + n) j.judged p.repaired;
      }

  -- the same numbers, said in another way
  same : {k j : ℕ} {having wanted : ℕ → ℕ} {places n : ℕ} → Part ed k having places → k ≡ j → ((m : ℕ) → having m ≡ wanted m) → places ≡ n → Part ed j wanted n
  same p e h r =
      record {
        frames = p.frames;
        all-bytes = p.all-bytes;
        by-edition = p.by-edition;
        counted = p.counted ∙ e;
        by_number = λ m. p.by_number m ∙ h m;
        repaired = p.repaired ∙ r;
      }

  both : {k j : ℕ} {having other : ℕ → ℕ} {places n : ℕ} → Part ed k having places → Part ed j other n → Part ed (k + j) (λ m. having m + other m) (places + n)
  both p q =
      record {
        frames = p.frames ++ q.frames;
        all-bytes = each_append (λ f. Bytes f.1) p.frames q.frames p.all-bytes q.all-bytes;
        by-edition = each_append (λ f. f.0 ≡ ed) p.frames q.frames p.by-edition q.by-edition;
        counted = length-append p.frames q.frames ∙ ap₂ ◌+◌ p.counted q.counted;
        by_number = λ m. with_append m p.frames q.frames ∙ ap₂ ◌+◌ (p.by_number m) (q.by_number m);
        repaired = places-append p.frames q.frames ∙ ap₂ ◌+◌ p.repaired q.repaired;
      }

  -- r frames with one refusal
  refused : (n r : ℕ) → 0 < n → n ≤ 9 → Part ed r (λ m. r * digit (eqb n m)) 0
  refused n zero h l = same none refl (λ m. omega arith) refl
  refused n (suc r) h l =
      same (more (verdict_refused n) ((every-verdict ed).refused-some n h l) (refused n r h l)) refl (λ m. omega arith)
      (ap (λ (t : Bool). cond t 0 0 + 0) (ne_eqb n 0 (λ e. omega arith)))

  -- as many accepted frames, with so many places
  accepted : (a p : ℕ) → p ≤ 8 * a → Part ed a (λ m. a * digit (eqb 0 m)) p
  accepted zero p h = same none refl (λ m. omega arith) (omega arith)
  accepted (suc a) p h =
      same (more (verdict_accepted (min 8 p)) ((every-verdict ed).accepted-some (min 8 p) (omega arith)) (accepted a (p - min 8 p) (omega arith))) refl
      (λ m. omega arith) (omega arith)

  -- refusals from n on, as often as the list says
  at : ℕ → List ℕ → ℕ → ℕ
  at n rs m = cond (leb n m) (get_or rs (m - n) 0) 0

  at_next : (n r : ℕ) (rs : List ℕ) (m : ℕ) → r * digit (eqb n m) + at (suc n) rs m ≡ at n (r ∷ rs) m
  unfolding at digit
  at_next n r rs m = go (eqb n m) refl (leb n m) refl
    where
      go : (t : Bool) → eqb n m ≡ t → (u : Bool) → leb n m ≡ u → r * digit (eqb n m) + at (suc n) rs m ≡ at n (r ∷ rs) m
      go true e u d =
          let same_number = eqb-true n m e in
          let z : m - n ≡ 0 = omega arith in
          rw (e, lt-leb (suc n) m (omega arith), le-leb n m (omega arith), z) (omega arith)
      go false e true d =
          let apart = eqb-false n m e in
          let l = leb-true n m d in
          let s : m - n ≡ suc (m - suc n) = omega arith in
          rw (e, le-leb (suc n) m (omega arith), d, s) (omega arith)
      go false e false d =
          let l = leb-false n m d in
          rw (e, lt-leb (suc n) m (omega arith), d) (omega arith)

  at_none : (n m : ℕ) → ◌≡◌ {A = ℕ} 0 (at n [] m)
  unfolding at
  at_none n m = go (leb n m)
    where
      go : (t : Bool) → ◌≡◌ {A = ℕ} 0 (cond t 0 0)
      go true = refl
      go false = refl

  refused_all : (rs : List ℕ) (n : ℕ) → 0 < n → n + length rs ≤ 10 → Part ed (sum rs) (at n rs) 0
  unfolding sum
  refused_all [] n h l = same none refl (at_none n) refl
  refused_all (r ∷ rs) n h l = same (both (refused n r h (omega arith)) (refused_all rs (suc n) (omega arith) (omega arith))) refl (at_next n r rs) refl

  -- ---- the whole ledger

  map-from : (g h : ℕ → ℕ) (k a : ℕ) → 0 < a → ((n : ℕ) → 0 < n → g n ≡ h n) → map g (up_from a k) ≡ map h (up_from a k)
  unfolding up_from
  map-from g h zero a l e = refl
  map-from g h (suc k) a l e = ap₂ ◌∷◌ (e a l) (map-from g h k (suc a) (omega arith) e)

  no-places : (n : ℕ) → 0 + n ≡ n
  no-places n = omega arith

  -- beside a accepted frames
  refused-at : (rs : List ℕ) (a n : ℕ) → 0 < n → at 1 rs n + a * digit (eqb 0 n) ≡ get_or rs (n - 1) 0
  unfolding at digit
  refused-at rs a n h = rw (le-leb 1 n h, ne_eqb 0 n (λ e. omega arith)) (omega arith)

  accepted-at : (rs : List ℕ) (a : ℕ) → at 1 rs 0 + a * digit (eqb 0 0) ≡ a
  unfolding at digit
  accepted-at rs a = omega arith

  pub given : (l : Ledger) → length l.refused ≡ 9 → possible l ≡ true → (g : Possible l) × Each (λ f. f.0 ≡ ed) g.frames
  unfolding up_from ledger_of
  given l nine ok =
      let c = possible-counts l ok in
      let p = both (refused_all l.refused 1 (omega arith) (omega arith)) (accepted l.accepted l.repaired c.eight) in
      let numbers : map (λ n. frames_with n p.frames) refusals ≡ l.refused =
      map-from (λ n. frames_with n p.frames) (λ n. get_or l.refused (n - 1) 0) 9 1 (omega arith) (λ n h. p.by_number n ∙ refused-at l.refused l.accepted n h)
      ∙ row-all l.refused 9 nine in (
        record {
          frames = p.frames;
          all-bytes = p.all-bytes;
          few = omega (arith, p.counted, c.all, c.few);
          gives =
              λ i.
              record {
                seen = (p.counted ∙ sym c.all) i;
                refused = numbers i;
                accepted = (p.by_number 0 ∙ accepted-at l.refused l.accepted) i;
                repaired = (p.repaired ∙ no-places l.repaired) i;
              };
        },
        p.by-edition,
      )
