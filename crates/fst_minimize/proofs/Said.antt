-- What is said of arcs: as more weights have numbers, arc by arc, and what it tells.
use Rattle.std.proofs.Common.{◌≡◌, inl, inr, ℕ, ◌+◌, ◌<◌, List, [], ◌∷◌, ◌++◌, Some, length, get_or, map, take, slice_get, sym, refl, ap, ap₂, ◌∙◌, subst}
use Rattle.std.proofs.lemmas.List.{map-append, take_more}
use Rattle.std.proofs.lemmas.Option.{same_Some}
use Rattle.fst_semiring.specs.Cost.{Cost}
use Rattle.fst_machine.specs.Machine.{Arc, valued_arc}
use Rattle.fst_machine.specs.Letters.{Letter, letter_of}
use Rattle.fst_machine.specs.BreadthFirst.{Apart, Grows}
use Rattle.fst_machine.proofs.Arcs.{at_append_left}
use Rattle.fst_machine.proofs.Elements.{Apart_at, Apart-push}
use Rattle.fst_minimize.specs.declared.weights.WeightKey.{WeightKey}
use Rattle.fst_minimize.specs.Refining.{spelling}
use Rattle.fst_minimize.specs.Saying.{weight_key, Extends, SaysArcs}
use Rattle.fst_minimize.proofs.WeightKeys.{key_once}

-- a list that grows by an element that it may have
pub grows_extends : {X : Type 0} (old new : List X) (x : X) → Grows old (x ∷ []) new → Extends old new
grows_extends old new x (inl h) k y e = ap (λ xs. slice_get xs k) (sym h.1) ∙ e
grows_extends old new x (inr h) k y e = ap (λ xs. slice_get xs k) (sym h.1) ∙ at_append_left old (x ∷ []) k y e

pub grows_apart : {X : Type 0} (old new : List X) (x : X) → Apart old → Grows old (x ∷ []) new → Apart new
grows_apart old new x apart (inl h) = subst Apart h.1 apart
grows_apart old new x apart (inr h) = subst Apart h.1 (Apart-push old x apart h.0)

-- what was said stays said
pub says_more : (keys more : List WeightKey) (arcs : List (Arc Cost ℕ)) (said : List ℕ) → Extends keys more → SaysArcs keys arcs said → SaysArcs more arcs said
says_more keys more [] [] extends s = s
says_more keys more [] (x ∷ said) extends s = absurd s
says_more keys more (a ∷ arcs) [] extends s = absurd s
says_more keys more (a ∷ arcs) (l ∷ []) extends s = absurd s
says_more keys more (a ∷ arcs) (l ∷ (n ∷ said)) extends s = (s.0, extends n (weight_key a.weight) s.1, says_more keys more arcs said extends s.2)

-- one arc more
pub says_push : (keys : List WeightKey) (arcs : List (Arc Cost ℕ)) (said : List ℕ) (a : Arc Cost ℕ) (l n : ℕ) → SaysArcs keys arcs said → l ≡ a.ilabel → slice_get keys n ≡ Some (weight_key a.weight) → SaysArcs keys (arcs ++ a ∷ []) ((said ++ l ∷ []) ++ n ∷ [])
says_push keys [] [] a l n s label weight = (label, weight, tt)
says_push keys [] (x ∷ said) a l n s label weight = absurd s
says_push keys (b ∷ arcs) [] a l n s label weight = absurd s
says_push keys (b ∷ arcs) (x ∷ []) a l n s label weight = absurd s
says_push keys (b ∷ arcs) (x ∷ (y ∷ said)) a l n s label weight = (s.0, s.1, says_push keys arcs said a l n s.2 label weight)

-- both labels of each arc are the same
abbrev pub LabelsSame : List (Arc Cost ℕ) → Type 0
LabelsSame [] = Unit {0}
LabelsSame (a ∷ arcs) = (a.olabel ≡ a.ilabel) × LabelsSame arcs

-- one row says one spelling
pub says_spelling : (keys : List WeightKey) (xs ys : List (Arc Cost ℕ)) (said : List ℕ) → LabelsSame xs → LabelsSame ys → SaysArcs keys xs said → SaysArcs keys ys said → spelling xs ≡ spelling ys
says_spelling keys [] [] said one two s t = refl
says_spelling keys [] (y ∷ ys) [] one two s t = absurd t
says_spelling keys [] (y ∷ ys) (l ∷ said) one two s t = absurd s
says_spelling keys (x ∷ xs) [] [] one two s t = absurd s
says_spelling keys (x ∷ xs) [] (l ∷ said) one two s t = absurd t
says_spelling keys (x ∷ xs) (y ∷ ys) [] one two s t = absurd s
says_spelling keys (x ∷ xs) (y ∷ ys) (l ∷ []) one two s t = absurd s
says_spelling keys (x ∷ xs) (y ∷ ys) (l ∷ (n ∷ said)) one two s t =
    let label : x.ilabel ≡ y.ilabel = sym s.0 ∙ t.0 in
    let output : x.olabel ≡ y.olabel = one.0 ∙ (label ∙ sym two.0) in
    let weight : x.weight ≡ y.weight = key_once x.weight y.weight (same_Some (weight_key x.weight) (weight_key y.weight) (sym s.1 ∙ t.1)) in
    let letter : letter_of x ≡ letter_of y = λ i. record { ilabel = label i; olabel = output i; weight = weight i } in
    ap₂ (◌∷◌) letter (says_spelling keys xs ys said one.1 two.1 s.2 t.2)

-- and one spelling is said by one row
pub spelling_says : (keys : List WeightKey) (xs ys : List (Arc Cost ℕ)) (said other : List ℕ) → Apart keys → spelling xs ≡ spelling ys → SaysArcs keys xs said → SaysArcs keys ys other → said ≡ other
spelling_says keys [] [] [] [] apart e s t = refl
spelling_says keys [] [] [] (m ∷ other) apart e s t = absurd t
spelling_says keys [] [] (l ∷ said) other apart e s t = absurd s
spelling_says keys [] (y ∷ ys) said other apart e s t = absurd (cc)
spelling_says keys (x ∷ xs) [] said other apart e s t = absurd (cc)
spelling_says keys (x ∷ xs) (y ∷ ys) [] other apart e s t = absurd s
spelling_says keys (x ∷ xs) (y ∷ ys) (l ∷ []) other apart e s t = absurd s
spelling_says keys (x ∷ xs) (y ∷ ys) (l ∷ (n ∷ said)) [] apart e s t = absurd t
spelling_says keys (x ∷ xs) (y ∷ ys) (l ∷ (n ∷ said)) (k ∷ []) apart e s t = absurd t
spelling_says keys (x ∷ xs) (y ∷ ys) (l ∷ (n ∷ said)) (k ∷ (m ∷ other)) apart e s t =
    let letter : letter_of x ≡ letter_of y = cc in
    let rest : spelling xs ≡ spelling ys = cc in
    let label : l ≡ k = s.0 ∙ (ap (λ (c : Letter). c.ilabel) letter ∙ sym t.0) in
    let key : weight_key x.weight ≡ weight_key y.weight = ap (λ (c : Letter). weight_key c.weight) letter in
    let weight : n ≡ m = Apart_at keys n m (weight_key y.weight) apart (s.1 ∙ ap Some key) t.1 in
    ap₂ (◌∷◌) label (ap₂ (◌∷◌) weight (spelling_says keys xs ys said other apart rest s.2 t.2))

-- one arc more, as it is read
pub said_step : {V : Type 0} (value : V → Cost) (keys more : List WeightKey) (arcs : List (Arc V ℕ)) (i : ℕ) (y : Arc V ℕ) (said new : List ℕ) (n : ℕ) → i < length arcs → y ≡ get_or arcs i y → Extends keys more
    → SaysArcs keys (map (valued_arc value) (take i arcs)) said → slice_get more n ≡ Some (weight_key (value y.weight)) → new ≡ (said ++ y.ilabel ∷ []) ++ n ∷ [] → SaysArcs more (map (valued_arc value) (take (i + 1) arcs)) new
said_step {V} value keys more arcs i y said new n low read extends says there put =
    let all = says_push more (map (valued_arc value) (take i arcs)) said (valued_arc value y) y.ilabel n (says_more keys more (map (valued_arc value) (take i arcs)) said extends says) refl there in
    let front : map (valued_arc value) (take (i + 1) arcs) ≡ map (valued_arc value) (take i arcs) ++ valued_arc value y ∷ [] =
    ap (map (valued_arc value)) (take_more arcs i y low) ∙ (map-append (valued_arc value) (take i arcs) (get_or arcs i y ∷ []) ∙ ap (λ (b : Arc V ℕ). map (valued_arc value) (take i arcs) ++ valued_arc value b ∷ []) (sym read)) in
    subst (λ (xs : List (Arc Cost ℕ)). SaysArcs more xs new) (sym front) (subst (SaysArcs more (map (valued_arc value) (take i arcs) ++ valued_arc value y ∷ [])) (sym put) all)
