-- Words written down as paths.
use Rattle.std.proofs.Common.{◌≡◌, ℕ, ◌+◌, ◌<◌, ◌≤◌, zero, suc, List, [], ◌∷◌, ◌++◌, Some, drop, take, length, map, slice_get, refl, sym, ap, ap₂, subst, ◌∙◌, arith}
use Rattle.std.proofs.lemmas.List.{append_assoc, append-nil, length-append, length-map, map-append, take_all, take_more}
use Rattle.std.proofs.lemmas.Option.{get_or_from_slice_get, same_Some, slice_get_within}
use Rattle.fst_semiring.specs.Cost.{Cost}
use Rattle.fst_machine.specs.Machine.{Arc}
use Rattle.fst_machine.specs.Graph.{Graph}
use Rattle.fst_machine.specs.Paths.{Transition, IsPath, places}
use Rattle.fst_machine.specs.PathOrder.{arc_places}
use Rattle.fst_nbest.specs.Chains.{arc_at, no_arc}
use Rattle.fst_nbest.specs.FirstPaths.{IsTraceable, traced}

-- the arc of a transition is that of its place
pub arc_there : {N : Type 0} (g : Graph N) (q : N) (k : ℕ) (a : Arc Cost N) → slice_get (g.arcs q) k ≡ Some a → arc_at g (q, k) ≡ a
arc_there g q k a there = get_or_from_slice_get (g.arcs q) k a (no_arc q) there

-- a path by the places of its arcs
pub path_traced : {N : Type 0} (g : Graph N) (path : List (Transition N)) (q last : N) → IsPath g q path last → places path ≡ traced g q (arc_places path)
path_traced g [] q last leads = refl
path_traced g (t ∷ path) q last leads =
    let next : t.arc.next ≡ (arc_at g (q, t.place)).next = ap (λ (a : Arc Cost _). a.next) (sym (arc_there g q t.place t.arc leads.0.1)) in
    ap₂ (λ (s : _ × ℕ) (l : List (_ × ℕ)). s ∷ l) (ap (λ (p : _). (p, t.place)) leads.0.0) (path_traced g path t.arc.next last leads.1 ∙ ap (λ (p : _). traced g p (arc_places path)) next)

pub path_traceable : {N : Type 0} (g : Graph N) (path : List (Transition N)) (q last : N) → IsPath g q path last → IsTraceable g q (arc_places path)
path_traceable g [] q last leads = tt
path_traceable g (t ∷ path) q last leads = (
  slice_get_within (g.arcs q) t.place t.arc leads.0.1,
  subst (λ (p : _). IsTraceable g p (arc_places path)) (ap (λ (a : Arc Cost _). a.next) (sym (arc_there g q t.place t.arc leads.0.1))) (path_traceable g path t.arc.next last leads.1),
)

-- A word that is being traced: the steps so far, and the name where they lead.
pub record IsTracing {N : Type 0} (g : Graph N) (start : N) (word : List ℕ) (k : ℕ) (steps : List (N × ℕ)) (name : N) : Type 0 where
  pub rest : IsTraceable g name (drop k word)
  pub same : traced g start word ≡ steps ++ traced g name (drop k word)

pub tracing_begins : {N : Type 0} (g : Graph N) (start : N) (word : List ℕ) → IsTraceable g start word → IsTracing g start word 0 [] start
tracing_begins g start word ok = record { rest = ok; same = refl }

drop_at : (word : List ℕ) (k x : ℕ) → slice_get word k ≡ Some x → drop k word ≡ x ∷ drop (k + 1) word
drop_at [] k x e = absurd (cc)
drop_at (y ∷ word) zero x e = ap (λ (z : ℕ). z ∷ word) (same_Some y x e)
drop_at (y ∷ word) (suc k) x e = drop_at word k x e ∙ ap (λ (i : ℕ). x ∷ drop i (y ∷ word)) (let f : suc (k + 1) ≡ suc k + 1 = omega arith in f)

drop_end : (word : List ℕ) (k : ℕ) → length word ≤ k → drop k word ≡ []
drop_end [] zero h = refl
drop_end [] (suc k) h = refl
drop_end (y ∷ word) zero h = absurd (omega (arith, h))
drop_end (y ∷ word) (suc k) h = drop_end word k (omega (arith, h))

module _ {N : Type 0} (g : Graph N) (start : N) (word : List ℕ) (k x : ℕ) (at : slice_get word k ≡ Some x) (steps : List (N × ℕ)) (name : N) (t : IsTracing g start word k steps name) where
  split_rest : IsTraceable g name (x ∷ drop (k + 1) word)
  split_rest = subst (IsTraceable g name) (drop_at word k x at) t.rest

  pub tracing_within : x < length (g.arcs name)
  tracing_within = split_rest.0

  pub tracing_goes_on : IsTracing g start word (k + 1) (steps ++ (name, x) ∷ []) (arc_at g (name, x)).next
  tracing_goes_on = record {
    rest = split_rest.1;
    same = t.same ∙ (ap (λ (l : List ℕ). steps ++ traced g name l) (drop_at word k x at) ∙ sym (append_assoc steps ((name, x) ∷ []) (traced g (arc_at g (name, x)).next (drop (k + 1) word))));
  }

pub tracing_ends : {N : Type 0} (g : Graph N) (start : N) (word : List ℕ) (k : ℕ) (steps : List (N × ℕ)) (name : N) → length word ≤ k → IsTracing g start word k steps name → steps ≡ traced g start word
tracing_ends g start word k steps name all t = sym (t.same ∙ (ap (λ (l : List ℕ). steps ++ traced g name l) (drop_end word k all) ∙ append-nil steps))

-- one list more of those that are mapped
pub mapped_more : {X Y Z : Type 0} (w : X → Z) (t : Y → Z) (old paths new : List X) (words : List Y) (i : ℕ) (word : Y) (path : X) → slice_get words i ≡ Some word → w path ≡ t word → new ≡ paths ++ path ∷ []
    → map w paths ≡ map w old ++ map t (take i words) → map w new ≡ map w old ++ map t (take (i + 1) words)
mapped_more w t old paths new words i word path at same put before =
    let low = slice_get_within words i word at in
    let more : take (i + 1) words ≡ take i words ++ word ∷ [] = take_more words i word low ∙ ap (λ (x : _). take i words ++ x ∷ []) (get_or_from_slice_get words i word word at) in
    ap (map w) put ∙ (map-append w paths (path ∷ []) ∙ (ap₂ (λ (l : List _) (z : _). l ++ z ∷ []) before same ∙ (append_assoc (map w old) (map t (take i words)) (t word ∷ [])
    ∙ ap (λ (l : List _). map w old ++ l) (sym (map-append t (take i words) (word ∷ [])) ∙ ap (map t) (sym more)))))

pub mapped_all : {X Y Z : Type 0} (w : X → Z) (t : Y → Z) (old new : List X) (words : List Y) (i : ℕ) → length words ≤ i → map w new ≡ map w old ++ map t (take i words) → map w new ≡ map w old ++ map t words
mapped_all w t old new words i all h = h ∙ ap (λ (l : List _). map w old ++ map t l) (take_all i words all)

-- how many there are then
pub mapped_length : {X Y Z : Type 0} (w : X → Z) (t : Y → Z) (old new : List X) (words : List Y) → map w new ≡ map w old ++ map t words → length new ≡ length old + length words
mapped_length w t old new words e =
    let all = length-map new w in
    let before = length-map old w in
    let more = length-map words t in
    let both = length-append (map w old) (map t words) in
    let same = ap length e in
    omega (arith, all, before, more, both, same)
