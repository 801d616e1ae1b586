-- What is left to be put of a machine of chains.
use Rattle.std.proofs.Common.{◌≡◌, ℕ, ◌+◌, ◌<◌, ◌≤◌, suc, List, [], ◌∷◌, ◌++◌, Some, length, map, drop, slice_get, refl, sym, ap, ap₂, ◌∙◌, append_assoc, arith}
use Rattle.std.proofs.lemmas.Option.{get_or_from_slice_get, slice_get_within}
use Rattle.std.proofs.lemmas.List.{map-append, drop_more, drop_all}
use Rattle.std.proofs.lemmas.List.Sums.{sum_by-append}
use Rattle.fst_semiring.specs.Cost.{Cost, infinite}
use Rattle.fst_machine.specs.Machine.{Arc, State, arc_total, valued_arc, valued_state}
use Rattle.fst_machine.specs.Letters.{Letter, letter_of}
use Rattle.fst_nbest.specs.Chains.{Chain, chain_at, letter_at, lettered, tail_states, own_states, first_arc, first_arcs, all_states, start_weight, final_of, arcs_listed}
use Rattle.fst_machine.proofs.Valued.{arc_total-valued}
use Rattle.fst_nbest.proofs.ChainSizes.{arcs_listed-cons, own-total}

-- what is left of a list begins with what is in the place
pub drop_at : {X : Type 0} (xs : List X) (i : ℕ) (x : X) → slice_get xs i ≡ Some x → drop i xs ≡ x ∷ drop (i + 1) xs
drop_at {X} xs i x e = drop_more xs i x (slice_get_within xs i x e) ∙ ap (λ (y : X). y ∷ drop (i + 1) xs) (get_or_from_slice_get xs i x x e)

-- ---- a chain in its place

module _ (cs : List Chain) (i : ℕ) (low : i < length cs) where
  chain_drop : drop i cs ≡ chain_at cs i ∷ drop (i + 1) cs
  chain_drop = drop_more cs i (record { letters = []; last = infinite }) low

  pub count_drop : arcs_listed (drop i cs) ≡ length (chain_at cs i).letters + arcs_listed (drop (i + 1) cs)
  count_drop = ap (λ (ds : List Chain). arcs_listed ds) chain_drop ∙ arcs_listed-cons (chain_at cs i) (drop (i + 1) cs)

  -- one more chain's first arc is put
  pub first_arcs_more : (k n : ℕ) (old new whole : List (Arc Cost ℕ)) → n ≡ length (chain_at cs i).letters → old ++ first_arcs k (drop i cs) ≡ whole
      → new ≡ old ++ first_arc k (chain_at cs i).letters → new ++ first_arcs (k + n) (drop (i + 1) cs) ≡ whole
  first_arcs_more k n old new whole count so_far put =
      let rest = drop (i + 1) cs in
      let c = chain_at cs i in
      ap (λ (arcs : List (Arc Cost ℕ)). arcs ++ first_arcs (k + n) rest) put
      ∙ (append_assoc old (first_arc k c.letters) (first_arcs (k + n) rest)
      ∙ (ap (λ (j : ℕ). old ++ (first_arc k c.letters ++ first_arcs (k + j) rest)) count
      ∙ (ap (λ (ds : List Chain). old ++ first_arcs k ds) (sym chain_drop) ∙ so_far)))

  -- one more chain's states are put
  pub all_states_more : (k n : ℕ) (old new whole : List (State Cost)) → n ≡ length (chain_at cs i).letters → old ++ all_states k (drop i cs) ≡ whole
      → new ≡ old ++ own_states k (chain_at cs i).last (chain_at cs i).letters → new ++ all_states (k + n) (drop (i + 1) cs) ≡ whole
  all_states_more k n old new whole count so_far put =
      let rest = drop (i + 1) cs in
      let c = chain_at cs i in
      ap (λ (states : List (State Cost)). states ++ all_states (k + n) rest) put
      ∙ (append_assoc old (own_states k c.last c.letters) (all_states (k + n) rest)
      ∙ (ap (λ (j : ℕ). old ++ (own_states k c.last c.letters ++ all_states (k + j) rest)) count
      ∙ (ap (λ (ds : List Chain). old ++ all_states k ds) (sym chain_drop) ∙ so_far)))

  -- one more chain looked at for the final weight of the start
  pub final_more : (old new whole : Cost) → final_of old (drop i cs) ≡ whole → new ≡ start_weight old (chain_at cs i).last (chain_at cs i).letters
      → final_of new (drop (i + 1) cs) ≡ whole
  final_more old new whole so_far is =
      ap (λ (w : Cost). final_of w (drop (i + 1) cs)) is ∙ (ap (λ (ds : List Chain). final_of old ds) (sym chain_drop) ∙ so_far)

-- ---- the letters of a chain

-- the first arc of a chain
pub first_arc_none : (k : ℕ) (letters : List Letter) → length letters ≡ 0 → first_arc k letters ≡ []
first_arc_none k [] e = refl
first_arc_none k (l ∷ ls) e = absurd (omega (arith, e))

pub first_arc_some : (k : ℕ) (letters : List Letter) → (length letters ≡ 0 → ⊥) → first_arc k letters ≡ lettered k (letter_at letters 0) ∷ []
first_arc_some k [] some = absurd (some refl)
first_arc_some k (l ∷ ls) some = refl

-- the final weight of the start by one more chain
pub start_none : (letters : List Letter) (so_far last w : Cost) → length letters ≡ 0 → w ≡ last → w ≡ start_weight so_far last letters
start_none [] so_far last w e is = is
start_none (l ∷ ls) so_far last w e is = absurd (omega (arith, e))

pub start_some : (letters : List Letter) (so_far last : Cost) → (length letters ≡ 0 → ⊥) → so_far ≡ start_weight so_far last letters
start_some [] so_far last some = absurd (some refl)
start_some (l ∷ ls) so_far last some = refl

-- a chain's own states begin with all but the first of its letters
pub own_begins : (k : ℕ) (last : Cost) (letters : List Letter) → (length letters ≡ 0 → ⊥) → tail_states k last (drop 1 letters) ≡ own_states k last letters
own_begins k last [] some = absurd (some refl)
own_begins k last (l ∷ ls) some = refl

-- one more state of a chain is put
pub tail_more : (k n i : ℕ) (last : Cost) (letters : List Letter) (old new whole : List (State Cost)) → n ≡ suc k → i < length letters
    → old ++ tail_states k last (drop i letters) ≡ whole → new ≡ old ++ record { final = infinite; arcs = lettered n (letter_at letters i) ∷ [] } ∷ []
    → new ++ tail_states n last (drop (i + 1) letters) ≡ whole
tail_more k n i last letters old new whole next low so_far put =
    let l = letter_at letters i in
    let s : State Cost = record { final = infinite; arcs = lettered n l ∷ [] } in
    let here : drop i letters ≡ l ∷ drop (i + 1) letters = drop_more letters i (record { ilabel = 0; olabel = 0; weight = infinite }) low in
    ap (λ (states : List (State Cost)). states ++ tail_states n last (drop (i + 1) letters)) put
    ∙ (append_assoc old (s ∷ []) (tail_states n last (drop (i + 1) letters))
    ∙ (ap (λ (j : ℕ). old ++ (record { final = infinite; arcs = lettered j l ∷ [] } ∷ tail_states j last (drop (i + 1) letters))) next
    ∙ (ap (λ (ls : List Letter). old ++ tail_states k last ls) (sym here) ∙ so_far)))

-- ---- what is put

module _ {V : Type 0} (value : V → Cost) where
  -- a state with one arc is put
  pub one_put : (old new : List (State V)) (z : V) (clear pushed arcs : List (Arc V ℕ)) (a : Arc V ℕ) (l : Letter) (k : ℕ) → value z ≡ infinite → clear ≡ []
      → pushed ≡ clear ++ record { ilabel = a.ilabel; olabel = a.olabel; weight = a.weight; next = k } ∷ [] → arcs ≡ pushed → letter_of (valued_arc value a) ≡ l → new ≡ old ++ record { final = z; arcs = arcs } ∷ []
      → map (valued_state value) new ≡ map (valued_state value) old ++ record { final = infinite; arcs = lettered k l ∷ [] } ∷ []
  one_put old new z clear pushed arcs a l k blank none push same is put =
      let x : Arc V ℕ = record { ilabel = a.ilabel; olabel = a.olabel; weight = a.weight; next = k } in
      let one : arcs ≡ x ∷ [] = same ∙ (push ∙ ap (λ (xs : List (Arc V ℕ)). xs ++ x ∷ []) none) in
      ap (map (valued_state value)) put ∙ (map-append (valued_state value) old (record { final = z; arcs = arcs } ∷ [])
      ∙ (ap₂ (λ (w : Cost) (xs : List (Arc V ℕ)). map (valued_state value) old ++ record { final = w; arcs = map (valued_arc value) xs } ∷ []) blank one
      ∙ ap (λ (m : Letter). map (valued_state value) old ++ record { final = infinite; arcs = lettered k m ∷ [] } ∷ []) is))

  pub bare_put : (old new : List (State V)) (w : V) (clear arcs : List (Arc V ℕ)) (last : Cost) → value w ≡ last → clear ≡ [] → arcs ≡ clear → new ≡ old ++ record { final = w; arcs = arcs } ∷ []
      → map (valued_state value) new ≡ map (valued_state value) old ++ record { final = last; arcs = [] } ∷ []
  bare_put old new w clear arcs last is none same put =
      ap (map (valued_state value)) put ∙ (map-append (valued_state value) old (record { final = w; arcs = arcs } ∷ [])
      ∙ ap₂ (λ (v : Cost) (xs : List (Arc V ℕ)). map (valued_state value) old ++ record { final = v; arcs = map (valued_arc value) xs } ∷ []) is (same ∙ none))

  -- the states of a chain have no more arcs than it
  pub own_room : (old new : List (State V)) (k n : ℕ) (last : Cost) (ls : List Letter) → length ls ≡ n → map (valued_state value) new ≡ map (valued_state value) old ++ own_states k last ls → arc_total new ≤ arc_total old + n
  own_room old new k n last ls count put =
      let total : arc_total (map (valued_state value) new) ≡ arc_total (map (valued_state value) old ++ own_states k last ls) = ap arc_total put in
      let both = sum_by-append (λ (t : State Cost). length t.arcs) (map (valued_state value) old) (own_states k last ls) in
      omega (arith, total, both, own-total k last ls, arc_total-valued value new, arc_total-valued value old, count)

  -- all but the last of a chain's states stand, and the last is put
  pub tail_done : (old new : List (State V)) (k i : ℕ) (last : Cost) (ls : List Letter) (whole : List (State Cost)) → length ls ≤ i → map (valued_state value) old ++ tail_states k last (drop i ls) ≡ whole
      → map (valued_state value) new ≡ map (valued_state value) old ++ record { final = last; arcs = [] } ∷ [] → map (valued_state value) new ≡ whole
  tail_done old new k i last ls whole done so_far put = put ∙ (ap (λ (ms : List Letter). map (valued_state value) old ++ tail_states k last ms) (sym (drop_all i ls done)) ∙ so_far)

  -- one more arc is put
  pub arc_put : (old new : List (Arc V ℕ)) (a : Arc V ℕ) (l : Letter) (k : ℕ) (firsts : List (Arc Cost ℕ)) → letter_of (valued_arc value a) ≡ l
      → new ≡ old ++ record { ilabel = a.ilabel; olabel = a.olabel; weight = a.weight; next = k } ∷ [] → lettered k l ∷ [] ≡ firsts
      → map (valued_arc value) new ≡ map (valued_arc value) old ++ firsts
  arc_put old new a l k firsts is put same =
      ap (map (valued_arc value)) put ∙ (map-append (valued_arc value) old (record { ilabel = a.ilabel; olabel = a.olabel; weight = a.weight; next = k } ∷ [])
      ∙ (ap (λ (m : Letter). map (valued_arc value) old ++ lettered k m ∷ []) is ∙ ap (λ (xs : List (Arc Cost ℕ)). map (valued_arc value) old ++ xs) same))
