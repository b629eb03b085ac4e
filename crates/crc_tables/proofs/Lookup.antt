-- A function that is one `match` of a byte, its highest bit turned over, with a number in each arm. The borrow checker leaves a match of every value of
-- its type to a proof by hand. This is that proof, once for all such functions: if the arms have the numbers of a row, the answer at b is the b-th
-- (`lookup-meets`). Assumes `Logic`, as the rules of the program logic do.
use mathlib.Core.Path.{◌≡◌, refl, sym, subst}
use mathlib.Core.Bool.{Bool, true, false}
use mathlib.Core.List.{List, [], ◌∷◌}
use mathlib.Core.Option.{some, none}
use Prim.Native.Nat.{ℕ, suc, ◌+◌, ◌^◌, ◌<◌, ◌≤◌}
use native.Mathlib.Omega.{arith}
use lib.Bits.{bit_xor}
use lib.Dec.{T¹, ltb, lit<}
use borrow.Author.Tests.{lt-ltb}
use lib.ListN.{length, get_or}
use seplogic.Ra.Ura.{Ura}
use types.Logic.{Logic}
use mir.Syntax.{Ty, Home, Body, Arms, Opd, ty_int, value_local, w8, w32, int, int_big, int_neg, copy, place, rv_opd, op2, bit_xor as xor, assign, seq, switch, return, arm, no_default}
use prog.Wp.{Env, Tables, WpFn}
use denote.Triple.Statement.{Triple}
use borrow.Table.Row.{Cx, s_int, val_s}
use borrow.Table.Rows.{any_gone, sc_here}
use borrow.Table.Reads.{room_gone}
use borrow.Table.Typed.{Outs, TF, Typed, Want, Mo, Asks, with_next, pass, ask, at_next, at_ret, want_next, s_Typed, s_seq, t_seq, t_return, g_pre_lem}
use borrow.Rule.Scalar.{Oper, o_int, o_big, o_neg, o_at, n_use, n_room, k_op2, t_use, t_op2, g_room, room_Sc, reads_Sc, Holds-Sc}
use borrow.Rule.Switch.{Wants, Φarms, Φswitch, TypedArms, t_switch}
use borrow.Kind.Num.{p_num, r_num}
use borrow.Fn.Kinds.{ParamKind, ResultKind, Dens, In, Out, ty_r}
use borrow.Fn.Enter.{tys_p}
use borrow.Fn.Frame.{EnvOf}
use borrow.Fn.Function.{fn_of, plain_of, init}
use borrow.Fn.Any.{want_q}
use borrow.Fn.Plain.{t_fn_plain}
use Rattle.lanes.proofs.Number.{xor-same-byte}

-- ---- the code: local 0 is the answer, 1 the byte, 2 the key, 3 what the match gives

abbrev params : List (ParamKind 0)
params = p_num w8 ∷ []

abbrev result : ResultKind 0
result = r_num w32

abbrev others : List Ty
others = ty_int w8 ∷ ty_int w32 ∷ []

abbrev homes : List Home
homes = value_local ∷ value_local ∷ value_local ∷ value_local ∷ []

-- the code has a small number in another form than a large one
abbrev constant : Bool → ℕ → Opd
constant true c = int w32 c
constant false c = int_big w32 c

abbrev is_small : ℕ → Bool
is_small c = ltb c 1024

abbrev entry : Bool → ℕ → Body
entry s c = assign (place 3 []) (rv_opd (constant s c))

-- the arms of the bytes from i on, each at the byte's key
abbrev arms : ℕ → List ℕ → Arms
arms i [] = no_default
arms i (c ∷ cs) = arm (bit_xor i 128 ∷ []) (entry (is_small c) c) (arms (suc i) cs)

abbrev turn-over : Body
turn-over = assign (place 2 []) (op2 xor (copy (place 1 [])) (int_neg w8 128))

abbrev answer : Body
answer = seq (assign (place 0 []) (rv_opd (copy (place 3 [])))) return

abbrev matched : List ℕ → Body
matched cs = seq (switch (copy (place 2 [])) (arms 0 cs)) answer

abbrev pub lookup : List ℕ → Body
lookup cs = seq turn-over (matched cs)

-- ---- which locals hold something, at each point

abbrev Begun : Cx
Begun = record { locals = (0, any_gone (ty_int w32)) ∷ (1, sc_here (s_int w8)) ∷ (2, any_gone (ty_int w8)) ∷ (3, any_gone (ty_int w32)) ∷ []; slots = [] }

abbrev Keyed : Cx
Keyed = record { locals = (0, any_gone (ty_int w32)) ∷ (1, sc_here (s_int w8)) ∷ (2, sc_here (s_int w8)) ∷ (3, any_gone (ty_int w32)) ∷ []; slots = [] }

abbrev Found : Cx
Found = record { locals = (0, any_gone (ty_int w32)) ∷ (1, sc_here (s_int w8)) ∷ (2, sc_here (s_int w8)) ∷ (3, sc_here (s_int w32)) ∷ []; slots = [] }

abbrev Answered : Cx
Answered = record { locals = (0, sc_here (s_int w32)) ∷ (1, sc_here (s_int w8)) ∷ (2, sc_here (s_int w8)) ∷ (3, sc_here (s_int w32)) ∷ []; slots = [] }

abbrev Without3 : Cx
Without3 = record { locals = (0, sc_here (s_int w32)) ∷ (1, sc_here (s_int w8)) ∷ (2, sc_here (s_int w8)) ∷ (3, any_gone (ty_int w32)) ∷ []; slots = [] }

abbrev Without2 : Cx
Without2 = record { locals = (0, sc_here (s_int w32)) ∷ (1, sc_here (s_int w8)) ∷ (2, any_gone (ty_int w8)) ∷ (3, any_gone (ty_int w32)) ∷ []; slots = [] }

abbrev Ended : Cx
Ended = record { locals = (0, sc_here (s_int w32)) ∷ (1, any_gone (ty_int w8)) ∷ (2, any_gone (ty_int w8)) ∷ (3, any_gone (ty_int w32)) ∷ []; slots = [] }

abbrev Return : Outs
Return = record { next = none; exits = []; returns = some Ended }

abbrev Next : Outs
Next = with_next (some Found) Return

-- ---- what each part of the code asks before it, for what is wanted after it

abbrev operand : Bool → ℕ → Oper Keyed.locals
operand true c = o_int w32 c
operand false c = o_big w32 c

abbrev key : Asks Begun Keyed
key = k_op2 Begun xor (o_at 1 (ty_int w8) (val_s (s_int w8))) (o_neg w8 128) 2 (sc_here (s_int w8)) (s_int w8).of

abbrev find : Bool → ℕ → Mo Keyed → Mo Found
find s c = n_use Keyed (operand s c) 3 (sc_here (s_int w32)) (s_int w32).of

abbrev give : Mo Found → Mo Answered
give = n_use Found (o_at 3 (ty_int w32) (val_s (s_int w32))) 0 (sc_here (s_int w32)) (s_int w32).of

abbrev entry-asks : Bool → ℕ → TF Keyed Next
entry-asks s c Ψ = pass Keyed Found (find s c) (at_next Next Ψ)

abbrev each-asks : (i : ℕ) (cs : List ℕ) → Wants Keyed Next (arms i cs)
each-asks i [] = tt
each-asks i (c ∷ cs) = (entry-asks (is_small c) c, each-asks (suc i) cs)

abbrev match-asks : List ℕ → TF Keyed Next
match-asks cs = Φswitch Keyed Next 2 (λ x. x) (arms 0 cs) (each-asks 0 cs)

abbrev without2-asks : TF Without2 Return
without2-asks Ψ = pass Without2 Ended (n_room Without2 1 (ty_int w8)) (at_ret Return Ψ)

abbrev without3-asks : TF Without3 Return
without3-asks Ψ = pass Without3 Without2 (n_room Without3 2 (ty_int w8)) (without2-asks Ψ)

abbrev answered-asks : TF Answered Return
answered-asks Ψ = pass Answered Without3 (n_room Answered 3 (ty_int w32)) (without3-asks Ψ)

abbrev answer-asks : TF Found Return
answer-asks Ψ = pass Found Answered give (answered-asks Ψ)

abbrev matched-asks : List ℕ → TF Keyed Return
matched-asks cs Ψ = match-asks cs (want_next Found Return (answer-asks Ψ) Ψ)

abbrev asks : List ℕ → TF Begun Return
asks cs Ψ = ask key (matched-asks cs Ψ)

-- ---- that is all it asks

abbrev pub Fit : List ℕ → Type 0
Fit cs = (i : ℕ) → i < length cs → get_or cs i 0 < 2 ^ 32

module _ {M : Type 1} {𝓤 : Ura M} (𝓛 : Logic 𝓤) (𝓣 : Tables 𝓤 𝓛.H) (bs : List ℕ) where
  open 𝓛 use {H}

  abbrev E : Env 𝓤 H
  E = EnvOf 𝓛 (ty_r result ∷ tys_p params others) bs

  entry-typed : (s : Bool) (c : ℕ) → c < 2 ^ 32 → Typed 𝓛 𝓣 E Keyed (entry s c) Next (entry-asks s c)
  entry-typed true c h =
      s_Typed 𝓛 𝓣 E Keyed (entry true c) Next (pass Keyed Found (find true c)) tt
      (t_use 𝓛 E 𝓣 Keyed (operand true c) 3 (sc_here (s_int w32)) (ty_int w32) (val_s (s_int w32)) (s_int w32).of (subst T¹ (sym (lt-ltb c (2 ^ 32) h)) tt)
      (room_gone 𝓛 (ty_int w32)) (Holds-Sc 𝓛 (s_int w32)) refl (λ u. refl) (λ u. tt))
  entry-typed false c h =
      s_Typed 𝓛 𝓣 E Keyed (entry false c) Next (pass Keyed Found (find false c)) tt
      (t_use 𝓛 E 𝓣 Keyed (operand false c) 3 (sc_here (s_int w32)) (ty_int w32) (val_s (s_int w32)) (s_int w32).of (record { lower = record { fits = h } })
      (room_gone 𝓛 (ty_int w32)) (Holds-Sc 𝓛 (s_int w32)) refl (λ u. refl) (λ u. tt))

  arms-typed : (i : ℕ) (cs : List ℕ) → Fit cs → TypedArms 𝓛 𝓣 E Keyed Next (arms i cs) (each-asks i cs)
  arms-typed i [] fits = tt
  arms-typed i (c ∷ cs) fits = (entry-typed (is_small c) c (fits 0 (omega arith)), arms-typed (suc i) cs (λ j h. fits (suc j) (omega arith)))

  without2-typed : Typed 𝓛 𝓣 E Without2 return Return without2-asks
  without2-typed =
      g_pre_lem 𝓛 𝓣 E Without2 Ended return Return (pass Without2 Ended (n_room Without2 1 (ty_int w8))) (at_ret Return)
      (g_room 𝓛 E Without2 1 (ty_int w8) (room_Sc 𝓛 (s_int w8))) (t_return 𝓛 𝓣 E Return tt)

  without3-typed : Typed 𝓛 𝓣 E Without3 return Return without3-asks
  without3-typed =
      g_pre_lem 𝓛 𝓣 E Without3 Without2 return Return (pass Without3 Without2 (n_room Without3 2 (ty_int w8))) without2-asks
      (g_room 𝓛 E Without3 2 (ty_int w8) (room_Sc 𝓛 (s_int w8))) without2-typed

  answered-typed : Typed 𝓛 𝓣 E Answered return Return answered-asks
  answered-typed =
      g_pre_lem 𝓛 𝓣 E Answered Without3 return Return (pass Answered Without3 (n_room Answered 3 (ty_int w32))) without3-asks
      (g_room 𝓛 E Answered 3 (ty_int w32) (room_Sc 𝓛 (s_int w32))) without3-typed

  answer_typed : Typed 𝓛 𝓣 E Found answer Return answer-asks
  answer_typed =
      s_seq 𝓛 𝓣 E Found Answered (assign (place 0 []) (rv_opd (copy (place 3 [])))) return Return (pass Found Answered give) answered-asks
      (t_use 𝓛 E 𝓣 Found (o_at 3 (ty_int w32) (val_s (s_int w32))) 0 (sc_here (s_int w32)) (ty_int w32) (val_s (s_int w32)) (s_int w32).of
      (reads_Sc 𝓛 (s_int w32), refl) (room_gone 𝓛 (ty_int w32)) (Holds-Sc 𝓛 (s_int w32)) refl (λ u. refl) (λ u. tt))
      answered-typed

  matched-typed : (cs : List ℕ) → Fit cs → Typed 𝓛 𝓣 E Keyed (matched cs) Return (matched-asks cs)
  matched-typed cs fits =
      t_seq 𝓛 𝓣 E Keyed Found (switch (copy (place 2 [])) (arms 0 cs)) answer Return (match-asks cs) answer-asks
      (t_switch 𝓛 E 𝓣 Keyed 2 w8 (λ x. x) (arms 0 cs) Next (each-asks 0 cs) (reads_Sc 𝓛 (s_int w8)) refl (arms-typed 0 cs fits))
      answer_typed

  typed : (cs : List ℕ) → Fit cs → Typed 𝓛 𝓣 E Begun (lookup cs) Return (asks cs)
  typed cs fits =
      s_seq 𝓛 𝓣 E Begun Keyed turn-over (matched cs) Return (ask key) (matched-asks cs)
      (t_op2 𝓛 E 𝓣 Begun xor (o_at 1 (ty_int w8) (val_s (s_int w8))) (o_neg w8 128) 2 (sc_here (s_int w8)) (ty_int w8) (val_s (s_int w8)) (s_int w8).of
      (reads_Sc 𝓛 (s_int w8), refl) (tt, record { fits = lit< tt })
      (room_gone 𝓛 (ty_int w8)) (Holds-Sc 𝓛 (s_int w8)) refl (λ u. refl) (λ u. tt))
      (matched-typed cs fits)

-- ---- and what it asks holds, where what is wanted holds of the number of b. N is that b's key is none of those before

module _ (Ψ : Want Next) (u : Mo Keyed) (b : ℕ) (byte : b < 256) where
  arms-asked : (i : ℕ) (cs : List ℕ) (N : Type 0) → (N → i ≤ b) → i + length cs ≡ 256 → ((j : ℕ) → b ≡ i + j → entry-asks (is_small (get_or cs j 0)) (get_or cs j 0) Ψ u)
      → Φarms Keyed Next (arms i cs) (each-asks i cs) N (bit_xor b 128) Ψ u
  arms-asked i [] N from all wanted = λ none_before. absurd (omega (arith, from none_before))
  arms-asked i (c ∷ cs) N from all wanted = (
    λ e. let s : b ≡ i = xor-same-byte b i 128 byte (omega arith) e in wanted 0 (omega arith),
    arms-asked (suc i) cs (N × (bit_xor b 128 ≡ bit_xor i 128 → ⊥)) (λ m. later (from m.0) m.1) (omega arith) (λ j e. wanted (suc j) (omega (arith, e))),
  )
    where
      later : i ≤ b → (bit_xor b 128 ≡ bit_xor i 128 → ⊥) → suc i ≤ b
      later l other = let ne : b ≡ i → ⊥ = λ s. other (subst (λ k. bit_xor b 128 ≡ bit_xor k 128) s refl) in omega (arith, l, ne)

module _ (Pre : In 0 params) (Post : Out 0 params result) where
  -- the answer after the number c was found is c
  given : (s : Bool) (a : Dens tt params) (c : ℕ) → Post tt a c (a.0, tt)
      → answer-asks (want_q 0 params result others 0 tt tt a (Post tt a)) (find s c (key.next (init 0 params result others 0 tt tt a)))
  given true a c p = ((tt, tt), p)
  given false a c p = ((tt, tt), p)

  pub lookup-meets : (cs : List ℕ) → length cs ≡ 256 → Fit cs → ((a : Dens tt params) → a.0 < 256 → Pre tt a → Post tt a (get_or cs a.0 0) (a.0, tt))
      → {M : Type 1} {𝓤 : Ura M} (𝓛 : Logic 𝓤) (𝓣 : Tables 𝓤 𝓛.H)
      → Triple 𝓤 (WpFn 𝓤 𝓛.H 𝓣.C 𝓣.Λ (fn_of 0 params result others 0 homes (lookup cs))) (plain_of 𝓛 0 params result Pre Post)
  lookup-meets cs l fits meets 𝓛 𝓣 =
      t_fn_plain 𝓛 𝓣 0 params result others 0 homes (lookup cs) (λ κs qs bs. asks cs) (λ κs qs bs bd. typed 𝓛 𝓣 bs cs fits) Pre Post
      (λ κs qs a good pre bs. (tt, asked a good.0.1 pre))
    where
      asked : (a : Dens tt params) → a.0 < 256 → Pre tt a
          → matched-asks cs (want_q 0 params result others 0 tt tt a (Post tt a)) (key.next (init 0 params result others 0 tt tt a))
      asked a small pre =
          let want = want_q 0 params result others 0 tt tt a (Post tt a) in
          arms-asked (want_next Found Return (answer-asks want) want) (key.next (init 0 params result others 0 tt tt a)) a.0 small 0 cs Unit
          (λ m. omega arith) (omega arith)
          (λ j e. let i : a.0 ≡ j = omega arith in given (is_small (get_or cs j 0)) a (get_or cs j 0) (subst (λ n. Post tt a (get_or cs n 0) (a.0, tt)) i (meets a small pre)))
