-- What a batch lists of a line are matching pairs of paths of its two machines.
use Rattle.std.proofs.Common.{◌≡◌, ◌≢◌, ◌≤◌, ◌⊎◌, inl, inr, ℕ, List, [], ◌∷◌, length, map, refl, sym, ap, ◌∙◌, subst, arith}
use Rattle.std.specs.declared.cmp.Ordering.{Ordering}
use Rattle.std.specs.declared.cmp.Ordering.TheVariants.{Equal, Greater, Less}
use Rattle.std.specs.Ordering.{ordering_then}
use Rattle.std.proofs.lemmas.List.{length-map}
use Rattle.fst_semiring.specs.Cost.{Cost, cost_cmp}
use Rattle.fst_semiring.specs.declared.arc_type.ArcType.{ArcType}
use Rattle.fst_machine.specs.BreadthFirst.{Has}
use Rattle.fst_machine.specs.Graph.{Graph}
use Rattle.fst_machine.specs.Letters.{Letter, input, output}
use Rattle.fst_machine.specs.Matching.{IsMatchingPair}
use Rattle.fst_machine.specs.Paths.{letters}
use Rattle.fst_machine.specs.PathOrder.{WeightedPath, path_cmp}
use Rattle.fst_machine.specs.Relation.{IsSuccessful}
use Rattle.fst_compose.specs.Composition.{composed}
use Rattle.fst_compose.specs.Names.{Name}
use Rattle.fst_compose.specs.Reading.{IsReadOff, Path}
use Rattle.fst_compose.specs.Theorem.{IsComposed}
use Rattle.fst_compose.proofs.Theorem.{composed_is}
use Rattle.fst_lattice.specs.Lattice.{HasNoZero, Point, lattice}
use Rattle.fst_lattice.specs.LinePaths.{IsLineByLine, ReadsOff}
use Rattle.fst_lattice.proofs.LinePaths.{line_by_line}
use Rattle.fst_batch.specs.Answers.{IsAnswer, NoneBefore, all_faults}
use Rattle.fst_batch.specs.BestPaths.{IsListed, Told, told_of, valued_told}
use Rattle.fst_batch.specs.declared.answer.LineAnswer.TheVariants.{Listed}
use Rattle.fst_batch.specs.declared.fault.LineFault.TheVariants.{BadByte}
use Rattle.fst_command.specs.LineMatches.{AreBestMatches, IsMatched, IsReadAsPair}

-- ---- elements of a list, and of what a function makes of it

has_mapped : {X Y : Type 0} (f : X → Y) (xs : List X) (x : X) → Has xs x → Has (map f xs) (f x)
has_mapped f [] x h = absurd h
has_mapped f (y ∷ xs) x (inl e) = inl (ap f e)
has_mapped f (y ∷ xs) x (inr h) = inr (has_mapped f xs x h)

mapped_has : {X Y : Type 0} (f : X → Y) (xs : List X) (y : Y) → Has (map f xs) y → (x : X) × Has xs x × (f x ≡ y)
mapped_has f [] y h = absurd h
mapped_has f (x ∷ xs) y (inl e) = (x, inl refl, e)
mapped_has f (x ∷ xs) y (inr h) = let behind = mapped_has f xs y h in (behind.0, inr behind.1, behind.2)

-- what comes first is not worse
not_worse : (first next : Ordering) → ordering_then first next ≡ Less → first ≢ Greater
not_worse Less next e is = cc
not_worse Equal next e is = cc
not_worse Greater next e is = cc

-- ---- the paths of the lattice

module _ {N M : Type 0} (kind : ArcType) (a : Graph N) (b : Graph M) (line : List ℕ) (no_zero : HasNoZero line) where
  abbrev whole : Graph (Name N M)
  whole = composed kind a b

  lines : IsLineByLine kind line whole
  lines = line_by_line kind line whole

  pairs : IsComposed kind a b whole
  pairs = composed_is kind a b

  reads : (path : Path (Point (Name N M))) (w : Cost) → IsSuccessful kind (lattice line whole) path w
      → (one : Path N) × (two : Path M) × IsReadAsPair kind a b line path one two × IsMatchingPair kind a b one two line (output (letters path)) w
  reads path w good =
      let off = lines.reads no_zero path w good in
      let pair = pairs.pairs.reads off.0 w off.2 in
      let matches : IsMatchingPair kind a b pair.0 pair.1 line (output (letters path)) w =
      subst (λ (x : List ℕ). IsMatchingPair kind a b pair.0 pair.1 x (output (letters path)) w) off.3
      (subst (λ (said : List Letter). IsMatchingPair kind a b pair.0 pair.1 (input (letters off.0)) (output said) w) off.4 pair.3) in
      (pair.0, pair.1, record { between = off.0; weight = w; succeeds = off.2; tied = off.1; reads = pair.2 }, matches)

  clear : (path : Path (Point (Name N M))) (one other : Path N) (two another : Path M) → IsReadAsPair kind a b line path one two
      → IsReadAsPair kind a b line path other another → (one ≡ other) × (two ≡ another)
  clear path one other two another r q =
      let same : r.between ≡ q.between = lines.clear path r.between q.between r.tied q.tied in
      pairs.pairs.clear q.between one other two another (subst (λ (m : Path (Name N M)). IsReadOff a b m one two) same r.reads) q.reads

  has : (one : Path N) (two : Path M) (z : List ℕ) (w : Cost) → IsMatchingPair kind a b one two line z w
      → (path : Path (Point (Name N M))) × IsSuccessful kind (lattice line whole) path w × IsReadAsPair kind a b line path one two
      × (z ≡ output (letters path))
  has one two z w pair =
      let off = pairs.pairs.has one two line z w pair in
      let path = lines.has no_zero off.0 w off.1 (sym off.3) in
      (path.0, path.1, record { between = off.0; weight = w; succeeds = off.1; tied = path.2; reads = off.2 }, off.4 ∙ ap output (sym path.3))

  once : (path other : Path (Point (Name N M))) (v w : Cost) (one : Path N) (two : Path M) → IsSuccessful kind (lattice line whole) path v
      → IsSuccessful kind (lattice line whole) other w → IsReadAsPair kind a b line path one two → IsReadAsPair kind a b line other one two → path ≡ other
  once path other v w one two good fine r q =
      let same : q.between ≡ r.between = pairs.pairs.once q.between r.between q.weight r.weight one two q.succeeds r.succeeds q.reads r.reads in
      lines.once no_zero path other v w r.between good fine r.tied (subst (ReadsOff line whole other) same q.tied)

  pub is_matched : IsMatched kind a b line
  is_matched = record { reads = reads; clear = clear; has = has; once = once }

  -- ---- what is listed

  -- it is listed, or n others are, none of a worse weight
  abbrev IsPlaced : ℕ → List (Told Cost) → Told Cost → Type 0
  IsPlaced n listed said = Has listed said ⊎ ((length listed ≡ n) × ((t : Told Cost) → Has listed t → cost_cmp t.weight said.weight ≢ Greater))

  best_matches : (n : ℕ) (listed : List (Told Cost)) → IsListed kind (lattice line whole) n listed → AreBestMatches kind a b line n listed
  best_matches n listed h = subst (AreBestMatches kind a b line n) (sym h.told) (record { few = few; matches = matches; others = others }) where
    matches : (t : Told Cost) → Has (map told_of h.paths) t → (one : Path N) × (two : Path M) × IsMatchingPair kind a b one two line t.text t.weight
    matches t there =
        let from = mapped_has told_of h.paths t there in
        let pair = reads from.0.path from.0.weight (h.first.successful from.0 from.1) in
        (pair.0, pair.1, subst (λ (u : Told Cost). IsMatchingPair kind a b pair.0 pair.1 line u.text u.weight) from.2 pair.3)

    few : length (map told_of h.paths) ≤ n
    few = subst (λ (k : ℕ). k ≤ n) (sym (length-map h.paths told_of)) h.first.few

    others : (one : Path N) (two : Path M) (z : List ℕ) (w : Cost) → IsMatchingPair kind a b one two line z w
        → IsPlaced n (map told_of h.paths) (record { weight = w; text = z })
    others one two z w pair = by (h.first.others it path.1) where
      path : (p : Path (Point (Name N M))) × IsSuccessful kind (lattice line whole) p w × IsReadAsPair kind a b line p one two × (z ≡ output (letters p))
      path = has one two z w pair

      it : WeightedPath (Point (Name N M))
      it = record { path = path.0; weight = w }

      said : Told Cost
      said = record { weight = w; text = z }

      by : Has h.paths it ⊎ ((length h.paths ≡ n) × ((p : WeightedPath (Point (Name N M))) → Has h.paths p → path_cmp p it ≡ Less))
          → IsPlaced n (map told_of h.paths) said
      by (inl here) =
          inl (subst (λ (t : List ℕ). Has (map told_of h.paths) (record { weight = w; text = t })) (sym path.3) (has_mapped told_of h.paths it here))
      by (inr behind) = inr (
        length-map h.paths told_of ∙ behind.0,
        λ t there.
            let from = mapped_has told_of h.paths t there in
            subst (λ (u : Told Cost). cost_cmp u.weight w ≢ Greater) from.2 (not_worse (cost_cmp from.0.weight w) _ (behind.1 from.0 from.1)),
      )

-- ---- the answer of a line

module _ {N M V : Type 0} (kind : ArcType) (a : Graph N) (b : Graph M) (line : List ℕ) (n limit : ℕ) (value : V → Cost) where
  -- a line that paths are listed of holds no byte 0
  holds_none : NoneBefore kind (composed kind a b) n limit line all_faults → HasNoZero line
  holds_none none = λ k d below zero. none BadByte (omega arith) (λ (has : HasNoZero line). has k d below zero)

  pub listed_matches : (listed : List (Told V)) → IsAnswer kind (composed kind a b) n limit line value (Listed listed)
      → AreBestMatches kind a b line n (map (valued_told value) listed)
  listed_matches listed is = best_matches kind a b line (holds_none is.0) n (map (valued_told value) listed) is.1
