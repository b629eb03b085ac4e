-- The promises hold. Assumes nothing.
use mathlib.Core.Path.{◌≡◌, refl, sym, ap, ◌∙◌, subst}
use mathlib.Core.Bool.{Bool, true, false, cond}
use mathlib.Core.Logic.{◌≢◌}
use mathlib.Core.List.{List, []}
use Prim.Native.Nat.{ℕ}
use lib.Dec.{eqb}
use lib.ListN.{length}
use borrow.Author.Tests.{eq-eqb, ne_eqb}
use Rattle.bits.specs.Bits.{Bytes}
use Rattle.header.specs.Fields.{Sized}
use Rattle.header.specs.Header.{front_in, extension_in, header_in, header_refusal, no_header, header_read_of, header_of, Legal, record_refusal, write_number, write_of}
use Rattle.header.specs.Promises.{Demand2}
use Rattle.header.specs.declared.Header.{Header}
use Rattle.header.specs.declared.HeaderReading.{HeaderReading}
use Rattle.header.proofs.Computed.{header-order, record-order}
use Rattle.header.proofs.Fields.{sized}
use Rattle.header.proofs.Headers as headers

-- an accepted header is read as it stands
read-in : (h : List ℕ) → header_refusal h ≡ 0 → header_read_of h ≡ record { number = 0; header = header_in h }
unfolding header_read_of
read-in h e = rw e

comes_back : (r : Header) → Sized r → Legal r → header_read_of (header_of r) ≡ record { number = 0; header = r }
comes_back r z l =
    let n = headers.legal-fits r l in
    read-in (header_of r) (headers.same-refusal r z n ∙ l) ∙ ap (λ (x : Header). record { number = 0; header = x }) (headers.header_read r z n)

module _ (h : List ℕ) (e : header_refusal h ≡ 0) where
  read-header : (header_read_of h).header ≡ header_in h
  read-header = ap (λ (x : HeaderReading). x.header) (read-in h e)

  written-again : Bytes h → header_of (header_read_of h).header ≡ h
  written-again b = ap header_of read-header ∙ headers.read-written h (headers.accepted h e) b

  read-legal : Legal (header_read_of h).header
  read-legal = subst Legal (sym read-header) (headers.read-legal h (headers.accepted h e))

read-sized : (h : List ℕ) → Sized (header_read_of h).header
unfolding header_read_of front_in extension_in no_header
read-sized h = go (eqb (header_refusal h) 0)
  where
    go : (t : Bool) → Sized (cond t (header_in h) no_header)
    go true = sized _ _
    go false = sized [] []

written_apart : (r s : Header) → Sized r → Sized s → Legal r → Legal s → header_of r ≡ header_of s → r ≡ s
written_apart r s zr zs lr ls e = ap (λ (x : HeaderReading). x.header) (sym (comes_back r zr lr) ∙ ap header_read_of e ∙ comes_back s zs ls)

written : (r : Header) (s : List ℕ) → Legal r → length s ≡ 188 → write_of r s ≡ header_of r
unfolding write_of write_number
written r s l h = rw (eq-eqb (length s) 188 h, l)

unchanged : (r : Header) (s : List ℕ) → write_number r (length s) ≢ 0 → write_of r s ≡ s
unfolding write_of
unchanged r s h = rw (ne_eqb (write_number r (length s)) 0 h)

legal-exactly : (r : Header) → write_number r 188 ≡ record_refusal r
unfolding write_number
legal-exactly r = refl

pub demand2 : Demand2
demand2 =
    record {
      comes_back = comes_back;
      same-refusal = headers.same-refusal;
      written-again = λ h b e. written-again h e b;
      read-legal = read-legal;
      read-sized = read-sized;
      written_apart = written_apart;
      written-long = headers.length-header;
      written-crc = headers.crc-header;
      header-order = header-order;
      record-order = record-order;
      legal-exactly = legal-exactly;
      written = written;
      unchanged = unchanged;
    }
