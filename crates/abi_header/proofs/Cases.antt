-- The cases of the definitions, as the functions come to them. Assumes nothing.
use mathlib.Core.Path.{◌≡◌, ◌∙◌, ap, ap₂, sym}
use mathlib.Core.Logic.{◌≢◌}
use mathlib.Core.List.{List, ◌++◌}
use Prim.Native.Nat.{ℕ}
use lib.ListN.{length}
use borrow.Author.Tests.{eq-eqb, ne_eqb}
use Rattle.header.specs.Fields.{run, front_fields, front_of, extension_fields, extension_of}
use Rattle.header.specs.Header.{header_refusal, header_read_of}
use Rattle.header.specs.declared.Front.{Front}
use Rattle.header.specs.declared.Extension.{Extension}
use Rattle.header.specs.declared.Header.{Header}
use Rattle.header.specs.declared.HeaderReading.{HeaderReading}
use Rattle.header_arrays.specs.Placed.{placed}
use Rattle.header_arrays.proofs.Copies.{filled_none, filled_row, filled-all}
use Rattle.abi.specs.Status.{status_of}
use Rattle.abi_header.specs.Header.{header_values, header_from, header_read_status, header_read_values}

-- ---- a header and its fields

pub from_parts : (v a b : List ℕ) (f : Front) (e : Extension) → a ≡ run v 0 1 119 → b ≡ run v 119 1 26 → f ≡ front_of a → e ≡ extension_of b
    → record { front = f; extension = e } ≡ header_from v
unfolding header_from
from_parts v a b f e p q g h = ap₂ (λ (x : Front) (y : Extension). record { front = x; extension = y }) (g ∙ ap front_of p) (h ∙ ap extension_of q)

pub fields-put : (r : Header) (a s t u : List ℕ) → length s ≡ 145 → a ≡ front_fields r.front → length a ≡ 119 → length r.extension.ac ≡ 26
    → t ≡ placed s 0 a → u ≡ placed t 119 r.extension.ac → u ≡ header_values r
unfolding header_values extension_fields
fields-put r a s t u ls e la lx p q =
    let one = filled_row a t 119 (filled_none s) p la in
    let two = filled_row r.extension.ac u 26 one q lx in
    filled-all two ls ∙ ap (◌++ r.extension.ac) e

-- ---- reading: the status n and the buffer t

read_number : (h : List ℕ) (a : HeaderReading) → a ≡ header_read_of h → a.number ≡ header_refusal h
unfolding header_read_of
read_number h a e = ap (λ (x : HeaderReading). x.number) e

module _ (h s : List ℕ) {n : ℕ} {t : List ℕ} where
  pub read-wrong : length s ≢ 145 → n ≡ status_of 1 0 → t ≡ s → (n ≡ header_read_status h s) × (t ≡ header_read_values h s)
  unfolding header_read_status header_read_values
  read-wrong z e p = let y = ne_eqb (length s) 145 z in (rw y e, rw y p)

  pub read-refused : (a : HeaderReading) → length s ≡ 145 → a ≡ header_read_of h → a.number ≢ 0 → n ≡ status_of a.number 0 → t ≡ s
      → (n ≡ header_read_status h s) × (t ≡ header_read_values h s)
  unfolding header_read_status header_read_values
  read-refused a l e z p q =
      let y = eq-eqb (length s) 145 l in
      let m = read_number h a e in
      let x = ne_eqb (header_refusal h) 0 (λ w. z (m ∙ w)) in
      (rw y (p ∙ ap (λ (k : ℕ). status_of k 0) m), rw (y, x) q)

  pub read-accepted : (a : HeaderReading) → length s ≡ 145 → a ≡ header_read_of h → a.number ≡ 0 → n ≡ status_of 0 0 → t ≡ header_values a.header
      → (n ≡ header_read_status h s) × (t ≡ header_read_values h s)
  unfolding header_read_status header_read_values
  read-accepted a l e z p q =
      let y = eq-eqb (length s) 145 l in
      let m : header_refusal h ≡ 0 = sym (read_number h a e) ∙ z in
      let x = eq-eqb (header_refusal h) 0 m in
      (rw y (p ∙ ap (λ (k : ℕ). status_of k 0) (sym m)), rw (y, x) (q ∙ ap (λ (b : HeaderReading). header_values b.header) e))
