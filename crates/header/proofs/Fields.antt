-- A header's fields and the layout that holds them: how many there are, and that the list of fields and the header are one thing. Assumes nothing.
use mathlib.Core.Path.{◌≡◌, refl, sym, ap, ◌∙◌}
use mathlib.Core.List.{List, [], ◌∷◌}
use Prim.Native.Nat.{ℕ, zero, suc, ◌+◌}
use native.Mathlib.Omega.{arith}
use lib.ListN.{length, get_or}
use Rattle.bits.specs.Layout.{sum}
use Rattle.bits.specs.Segment.{widths, free_widths}
use Rattle.header.specs.Layout.{front_layout, extension_layout}
use Rattle.header.specs.Fields.{run, pairs, front_fields, front_of, extension_fields, extension_of, Sized}
use Rattle.header.specs.declared.Front.{Front}
use Rattle.header.specs.declared.Header.{Header}

-- ---- the layout

-- 99 bytes and 119 fields, 85 bytes and 26 fields
pub front-bits : sum (widths front_layout) ≡ 792
unfolding front_layout widths sum
front-bits = refl

pub extension-bits : sum (widths extension_layout) ≡ 680
unfolding extension_layout widths sum
extension-bits = refl

pub front-count : length (free_widths front_layout) ≡ 119
unfolding front_layout free_widths
front-count = refl

pub extension-count : length (free_widths extension_layout) ≡ 26
unfolding extension_layout free_widths
extension-count = refl

-- ---- runs of values

pub length_run : (v : List ℕ) (k d n : ℕ) → length (run v k d n) ≡ n
unfolding run
length_run v k d zero = refl
length_run v k d (suc n) = ap suc (length_run v (k + d) d n)

run-cons : (x : ℕ) (v : List ℕ) (k n : ℕ) → run (x ∷ v) (suc k) 1 n ≡ run v k 1 n
unfolding run
run-cons x v k zero = refl
run-cons x v k (suc n) =
    let e : suc k + 1 ≡ suc (k + 1) = omega arith in
    ap (get_or v k 0 ∷◌) (ap (λ (j : ℕ). run (x ∷ v) j 1 n) e ∙ run-cons x v (k + 1) n)

-- all values, one by one
pub run-all : (v : List ℕ) (n : ℕ) → length v ≡ n → run v 0 1 n ≡ v
unfolding run
run-all [] zero e = refl
run-all [] (suc n) e = absurd (omega arith)
run-all (x ∷ v) zero e = absurd (omega arith)
run-all (x ∷ v) (suc n) e = ap (x ∷◌) (run-cons x v 0 n ∙ run-all v n (omega arith))

-- ---- the values of a header that was made of them

-- the fields stand in the layout's order: value 20 is the first stream id, value 21 its network's, value 67 slot 2
front-order : (v : List ℕ) → front_fields (front_of v) ≡ run v 0 1 119
unfolding front_fields front_of pairs run
front-order v = refl

extension-order : (v : List ℕ) → extension_fields (extension_of v) ≡ run v 0 1 26
unfolding extension_fields extension_of
extension-order v = refl

pub fields-front : (v : List ℕ) → length v ≡ 119 → front_fields (front_of v) ≡ v
fields-front v l = front-order v ∙ run-all v 119 l

pub fields-extension : (v : List ℕ) → length v ≡ 26 → extension_fields (extension_of v) ≡ v
fields-extension v l = extension-order v ∙ run-all v 26 l

-- ---- the header of its own fields

-- a front, its arrays element by element
listed : Front → Front
listed f =
    record {
      packet = f.packet;
      sync = f.sync;
      change = f.change;
      method = f.method;
      form = f.form;
      valid = run f.valid 0 1 15;
      streams = run f.streams 0 1 15;
      networks = run f.networks 0 1 15;
      states = run f.states 0 1 15;
      carried = f.carried;
      emergency = f.emergency;
      slots = run f.slots 0 1 52;
    }

front-listed : (f : Front) → front_of (front_fields (listed f)) ≡ listed f
unfolding front_fields front_of pairs run listed
front-listed f = refl

listed-own : (r : Header) → Sized r → listed r.front ≡ r.front
unfolding listed
listed-own r s =
    rw (
      run-all r.front.valid 15 s.valid,
      run-all r.front.streams 15 s.streams,
      run-all r.front.networks 15 s.networks,
      run-all r.front.states 15 s.states,
      run-all r.front.slots 52 s.slots,
    )

pub front-fields : (r : Header) → Sized r → front_of (front_fields r.front) ≡ r.front
front-fields r s = let e = listed-own r s in ap (λ (f : Front). front_of (front_fields f)) (sym e) ∙ front-listed r.front ∙ e

pub extension-fields : (r : Header) → Sized r → extension_of (extension_fields r.extension) ≡ r.extension
unfolding extension_of extension_fields
extension-fields r s = rw (run-all r.extension.ac 26 s.ac)

-- the header that is made of values has arrays of their lengths
pub sized : (v w : List ℕ) → Sized (record { front = front_of v; extension = extension_of w })
unfolding front_of extension_of
sized v w =
    record {
      valid = length_run v _ _ 15;
      streams = length_run v _ _ 15;
      networks = length_run v _ _ 15;
      states = length_run v _ _ 15;
      slots = length_run v _ _ 52;
      ac = length_run w _ _ 26;
    }
