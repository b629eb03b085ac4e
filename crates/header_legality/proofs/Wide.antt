-- A field that is wider than its place. Assumes nothing.
use mathlib.Core.Path.{◌≡◌, sym, ap, ap₂, ◌∙◌}
use mathlib.Core.Bool.{Bool, true, not, ◌&&◌}
use mathlib.Core.List.{List}
use Prim.Native.Nat.{ℕ}
use borrow.Author.Tests.{not-true}
use Rattle.bits.specs.Layout.{fitb}
use Rattle.bits.specs.Segment.{free_widths}
use Rattle.header.specs.Layout.{front_layout, extension_layout}
use Rattle.header.specs.Fields.{front_fields, extension_fields}
use Rattle.header.specs.Tests.{too_wide}
use Rattle.header.specs.declared.Header.{Header}

module _ (r : Header) (ws vs : List ℕ) (fits : Bool) (ew : ws ≡ free_widths front_layout) (ev : vs ≡ front_fields r.front) (e : fits ≡ fitb ws vs) where
  front_fits : fitb (free_widths front_layout) (front_fields r.front) ≡ fits
  front_fits = sym (e ∙ ap₂ fitb ew ev)

  pub front-wide : not fits ≡ true → true ≡ too_wide r
  unfolding too_wide
  front-wide h = sym (ap (λ t. not (t && fitb (free_widths extension_layout) (extension_fields r.extension))) (front_fits ∙ not-true fits h))

  pub extension-wide : (us : List ℕ) (also : Bool) → fits ≡ true → us ≡ free_widths extension_layout → also ≡ fitb us r.extension.ac → not also ≡ too_wide r
  unfolding too_wide extension_fields
  extension-wide us also h eu f =
      ap not (f ∙ ap (λ x. fitb x r.extension.ac) eu) ∙ sym (ap (λ t. not (t && fitb (free_widths extension_layout) r.extension.ac)) (front_fits ∙ h))
