-- The worked examples of the header hold; the CRC of one is computed. Assumes nothing.
use mathlib.Core.Path.{◌≡◌, refl, ap, ◌∙◌}
use mathlib.Core.Bool.{not}
use mathlib.Core.List.{List, [], ◌∷◌}
use Prim.Native.Nat.{ℕ}
use native.Mathlib.Omega.{arith}
use lib.ListN.{length, drop}
use borrow.Author.Tests.{ne_eqb}
use Rattle.gf2.specs.Polynomial.{add, scale, remainder}
use Rattle.bits.specs.Bits.{digit, odd, value, bits_of, bits, bytes}
use Rattle.bits.specs.Layout.{pack}
use Rattle.bits.specs.Segment.{widths, with_fixed}
use Rattle.bits.proofs.Refusal.{refusal-here}
use Rattle.crc.specs.Crc.{crc, crc32}
use Rattle.header.specs.Layout.{front_layout, extension_layout}
use Rattle.header.specs.Fields.{pairs, front_fields, extension_fields}
use Rattle.header.specs.Header.{header_refusal, sealed, header_of}
use Rattle.header.specs.Worked.{sample, Worked}
use Rattle.header.proofs.Computed.{Found, refusals, sample-sized}
use Rattle.header.proofs.Headers.{same-refusal}

short : (h : List ℕ) → length h ≡ 187 → header_refusal h ≡ 1
unfolding header_refusal
short h l = refusal-here 1 _ (ap not (ne_eqb (length h) 188 (λ e. omega arith)))

read : (p n s number : ℕ) → Found p n s number → header_refusal (header_of (sample p n s)) ≡ number
read p n s number e = same-refusal (sample p n s) (sample-sized p n s) e.0 ∙ e.1

accepted : header_refusal (header_of (sample 0x47000000 1 0)) ≡ 0
accepted = read 0x47000000 1 0 0 refusals.legal

crc-alone : drop 184 (header_of (sample 0x47000000 1 0)) ≡ 0xE7 ∷ 0x60 ∷ 0xA5 ∷ 0x71 ∷ []
unfolding add scale remainder digit odd value bits_of bits bytes pack widths with_fixed crc crc32 front_layout extension_layout pairs front_fields extension_fields sealed header_of sample
crc-alone = refl

pub worked : Worked
worked =
    record {
      example12-short = short;
      example12-form = read 0x47000000 2 0 14 refusals.form;
      accepted = accepted;
      state = read 0x47000000 1 3 15 refusals.state;
      state-wide = refusals.state-wide;
      form-wide = refusals.form-wide;
      packet-sync-first = read 0x46000000 2 3 12 refusals.packet-sync-first;
      form-first = read 0x47000000 2 3 14 refusals.form-first;
      crc = crc-alone;
    }
