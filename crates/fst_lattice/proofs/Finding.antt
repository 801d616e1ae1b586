-- Names that are found by the arcs of a name, one after the other.
use Rattle.std.proofs.Common.{◌≡◌, ℕ, ◌+◌, ◌<◌, ◌≤◌, Bool, true, false, cond, nat_eq, filter, List, [], ◌∷◌, ◌++◌, Option, None, Some, length, map, take, get_or, slice_get, sym, ap, ◌∙◌, subst, append_assoc, append-nil}
use Rattle.std.specs.Prelude.{MatchBool, MatchOption}
use Rattle.std.specs.Option.{is_some}
use Rattle.std.proofs.lemmas.List.{map-append}
use Rattle.std.proofs.lemmas.List.Elements.{filter-append}
use Rattle.fst_semiring.specs.Cost.{Cost}
use Rattle.fst_machine.specs.BreadthFirst.{Grows}
use Rattle.fst_machine.specs.Graph.{nexts}
use Rattle.fst_machine.specs.Machine.{Arc}
use Rattle.fst_machine.proofs.Walks.{Grows-then}
use Rattle.std.proofs.lemmas.Option.{slice_get-get_or}
use Rattle.fst_walk.specs.Making.{Passes}
use Rattle.fst_walk.specs.Names.{key_arc}
use Rattle.fst_walk.proofs.Putting.{around-map, items_more}
use Rattle.fst_delayed.specs.Ascending.{those_reading}
use Rattle.fst_delayed.proofs.Running.{filter_again}
use Rattle.fst_lattice.specs.Lattice.{Point, arc_to, reading}
use Rattle.fst_lattice.specs.Walks.{label_arcs}
use Rattle.fst_lattice.proofs.Filtering.{filter_map-of}

module _ {N : Type 0} where
  pub nexts-append : (xs ys : List (Arc Cost N)) → nexts (xs ++ ys) ≡ nexts xs ++ nexts ys
  nexts-append xs ys = map-append (λ (a : Arc Cost N). a.next) xs ys

  pub label_append : (label i : ℕ) (xs ys : List (Arc Cost N)) → label_arcs label i (xs ++ ys) ≡ label_arcs label i xs ++ label_arcs label i ys
  label_append label i xs ys = ap (map (arc_to i)) (filter-append (λ (a : Arc Cost N). nat_eq a.ilabel label) xs ys) ∙ map-append (arc_to i) (filter (λ (a : Arc Cost N). nat_eq a.ilabel label) xs) (filter (λ (a : Arc Cost N). nat_eq a.ilabel label) ys)

  -- more than the limit by some are more by these and others
  pub passes_front : (limit : ℕ) (old xs ys : List N) → Passes limit old xs → Passes limit old (xs ++ ys)
  passes_front limit old xs ys p = record { front = p.front; rest = p.rest ++ ys; parts = ap (λ zs. zs ++ ys) p.parts ∙ append_assoc p.front p.rest ys; found = p.found; grown = p.grown; more = p.more }

  -- and by others and these
  pub passes_after : (limit : ℕ) (old mid xs ys : List N) → Grows old xs mid → Passes limit mid ys → Passes limit old (xs ++ ys)
  passes_after limit old mid xs ys grown p = record { front = xs ++ p.front; rest = p.rest; parts = ap (λ zs. xs ++ zs) p.parts ∙ sym (append_assoc xs p.front p.rest); found = p.found; grown = Grows-then xs p.front old mid p.found grown p.grown; more = p.more }

-- the arcs so far, and one more, and the rest
module _ {N : Type 0} (label i : ℕ) where
  pub labels_more : (so_far : List (Arc Cost N)) (a : Arc Cost N) → nexts (label_arcs label i (so_far ++ a ∷ [])) ≡ nexts (label_arcs label i so_far) ++ nexts (label_arcs label i (a ∷ []))
  labels_more so_far a = ap nexts (label_append label i so_far (a ∷ [])) ∙ nexts-append (label_arcs label i so_far) (label_arcs label i (a ∷ []))

  pub labels_whole : (all so_far rest : List (Arc Cost N)) (a : Arc Cost N) → all ≡ so_far ++ a ∷ rest → nexts (label_arcs label i all) ≡ (nexts (label_arcs label i so_far) ++ nexts (label_arcs label i (a ∷ []))) ++ nexts (label_arcs label i rest)
  labels_whole all so_far rest a is =
      ap (λ xs. nexts (label_arcs label i xs)) (is ∙ sym (append_assoc so_far (a ∷ []) rest)) ∙ (ap nexts (label_append label i (so_far ++ a ∷ []) rest) ∙ (nexts-append (label_arcs label i (so_far ++ a ∷ [])) (label_arcs label i rest) ∙ ap (λ xs. xs ++ nexts (label_arcs label i rest)) (labels_more so_far a)))

module _ {V N : Type 0} (f : V → Arc Cost N) (label i : ℕ) (old mid new : List (Point N)) (xs : List V) (k : ℕ) (x : V) (within : k < length xs) (is : x ≡ get_or xs k x)
    (grown : Grows old (nexts (label_arcs label i (map f (take k xs)))) mid) where
  -- the names of one more arc were found
  pub found_more : Grows mid (nexts (label_arcs label i (f x ∷ []))) new → Grows old (nexts (label_arcs label i (map f (take (k + 1) xs)))) new
  found_more more =
      let all : nexts (label_arcs label i (map f (take (k + 1) xs))) ≡ nexts (label_arcs label i (map f (take k xs))) ++ nexts (label_arcs label i (f x ∷ [])) =
      ap (λ ys. nexts (label_arcs label i ys)) (items_more f xs k x within is) ∙ labels_more label i (map f (take k xs)) (f x) in
      subst (λ ys. Grows old ys new) (sym all) (Grows-then (nexts (label_arcs label i (map f (take k xs)))) (nexts (label_arcs label i (f x ∷ []))) old mid new grown more)

  -- they are more than the limit
  pub found_many : (limit : ℕ) → Passes limit mid (nexts (label_arcs label i (f x ∷ []))) → Passes limit old (nexts (label_arcs label i (map f xs)))
  found_many limit p =
      let at : slice_get xs k ≡ Some x = slice_get-get_or xs k x within ∙ ap Some (sym is) in
      let r = around-map f xs k x at in
      subst (Passes limit old) (sym (labels_whole label i (map f xs) (map f (take k xs)) r.0 (f x) r.1))
      (passes_front limit old (nexts (label_arcs label i (map f (take k xs))) ++ nexts (label_arcs label i (f x ∷ []))) (nexts (label_arcs label i r.0))
      (passes_after limit old mid (nexts (label_arcs label i (map f (take k xs)))) (nexts (label_arcs label i (f x ∷ []))) grown p))

-- where none of the arcs so far reads epsilon, and one more does not, none of them does
pub silent_more : {V N : Type 0} (f : V → Arc Cost N) (xs : List V) (k : ℕ) (x : V) → k < length xs → x ≡ get_or xs k x → reading 0 (map f (take k xs)) ≡ [] → nat_eq (f x).ilabel 0 ≡ false → reading 0 (map f (take (k + 1) xs)) ≡ []
silent_more f xs k x within is before none =
    ap (reading 0) (items_more f xs k x within is) ∙ (filter-append (λ (a : Arc Cost _). nat_eq a.ilabel 0) (map f (take k xs)) (f x ∷ []) ∙ (ap (λ (ys : List (Arc Cost _)). ys ++ reading 0 (f x ∷ [])) before ∙ ap (λ (b : Bool). cond b (f x ∷ []) []) none))

-- where none reads epsilon, those that read a byte are all
pub silent_none : {N : Type 0} (i : ℕ) (bytes : List (Arc Cost (Point N))) (arcs : List (Arc Cost N)) → reading 0 arcs ≡ [] → bytes ++ label_arcs 0 i arcs ≡ bytes
silent_none i bytes arcs none = ap (λ (ys : List (Arc Cost _)). bytes ++ map (arc_to i) ys) none ∙ append-nil bytes

-- two lists of arcs, one after the other
module _ {N : Type 0} (limit : ℕ) (old : List N) where
  pub first_part : (xs ys : List (Arc Cost N)) → Passes limit old (nexts xs) → Passes limit old (nexts (xs ++ ys))
  first_part xs ys p = subst (Passes limit old) (sym (nexts-append xs ys)) (passes_front limit old (nexts xs) (nexts ys) p)

  pub both_parts : (mid new : List N) (xs ys : List (Arc Cost N)) → Grows old (nexts xs) mid → (fits : Bool) → MatchBool fits (Grows mid (nexts ys) new × (length new ≤ limit)) (Passes limit mid (nexts ys))
      → MatchBool fits (Grows old (nexts (xs ++ ys)) new × (length new ≤ limit)) (Passes limit old (nexts (xs ++ ys)))
  both_parts mid new xs ys grown true h = (subst (λ zs. Grows old zs new) (sym (nexts-append xs ys)) (Grows-then (nexts xs) (nexts ys) old mid new grown h.0), h.1)
  both_parts mid new xs ys grown false p = subst (Passes limit old) (sym (nexts-append xs ys)) (passes_after limit old mid (nexts xs) (nexts ys) grown p)

  -- the same where finding the names of the second tells of more than whether they fit
  pub both_found : (mid new : List N) (xs ys : List (Arc Cost N)) → Grows old (nexts xs) mid → (found : Option Bool) (fits : Bool) → fits ≡ is_some found
      → MatchOption found (Passes limit mid (nexts ys)) (λ silent. Grows mid (nexts ys) new × (length new ≤ limit)) → MatchBool fits (Grows old (nexts (xs ++ ys)) new × (length new ≤ limit)) (Passes limit old (nexts (xs ++ ys)))
  both_found mid new xs ys grown (Some silent) fits is h = both_parts mid new xs ys grown fits (subst (λ (b : Bool). MatchBool b (Grows mid (nexts ys) new × (length new ≤ limit)) (Passes limit mid (nexts ys))) (sym is) h)
  both_found mid new xs ys grown None fits is p = both_parts mid new xs ys grown fits (subst (λ (b : Bool). MatchBool b (Grows mid (nexts ys) new × (length new ≤ limit)) (Passes limit mid (nexts ys))) (sym is) p)

-- those that read a label are all among those that a run has
pub run_arcs : {V N : Type 0} (value : V → Cost) (label i : ℕ) (run arcs : List (Arc V N)) → run ≡ those_reading label arcs → label_arcs label i (map (key_arc value) run) ≡ label_arcs label i (map (key_arc value) arcs)
run_arcs {V} {N} value label i run arcs is =
    let reads : Arc V N → Bool = λ a. nat_eq a.ilabel label in
    ap (map (arc_to i)) (filter_map-of (key_arc value) (λ (a : Arc Cost N). nat_eq a.ilabel label) run
    ∙ (ap (map (key_arc value)) (ap (filter reads) is ∙ (filter_again reads arcs)) ∙ sym (filter_map-of (key_arc value) (λ (a : Arc Cost N). nat_eq a.ilabel label) arcs)))
