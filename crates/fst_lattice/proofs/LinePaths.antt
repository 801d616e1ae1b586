-- The paths of a lattice, and the paths of the graph that read the line.
use Rattle.std.proofs.Common.{◌≡◌, ◌≢◌, ◌⊎◌, inl, inr, ℕ, zero, suc, ◌+◌, ◌<◌, ◌≤◌, true, false, Bool, cond, nat_eq, List, [], ◌∷◌, ◌++◌, Some, length, drop, slice_get, refl, sym, ap, ◌∙◌, subst, eq-eqb, eqb-true, append-nil, length-drop, arith}
use Rattle.std.specs.Option.{option_map}
use Rattle.std.proofs.lemmas.Option.{get_or_from_slice_get, slice_get_within}
use Rattle.std.proofs.lemmas.Bool.{cases_eq}
use Rattle.fst_semiring.specs.Cost.{Cost, infinite}
use Rattle.fst_semiring.specs.declared.arc_type.ArcType.{ArcType}
use Rattle.fst_semiring.specs.Semiring.{times}
use Rattle.fst_machine.specs.Graph.{Graph}
use Rattle.fst_machine.specs.Letters.{Letter, before, input, letter_of, product}
use Rattle.fst_machine.specs.Machine.{Arc}
use Rattle.fst_machine.specs.Paths.{IsPath, Leaves, Transition, letters}
use Rattle.fst_machine.specs.Relation.{IsSuccessful}
use Rattle.fst_machine.proofs.Arcs.{mapped_some}
use Rattle.fst_machine.proofs.Elements.{Apart_at}
use Rattle.fst_lattice.specs.Lattice.{HasNoZero, Point, lattice, point}
use Rattle.fst_lattice.specs.LinePaths.{IsLineByLine, ReadsOff, moves_at}
use Rattle.fst_lattice.proofs.Steps.{IsStep, arc_is_step, byte_step, moves-Apart, reads_byte, silent_step, stays, step_to}

-- the line from a byte on
drop_at : (line : List ℕ) (i b : ℕ) → slice_get line i ≡ Some b → drop i line ≡ b ∷ drop (i + 1) line
drop_at [] i b e = absurd (cc)
drop_at (x ∷ line) zero b e = let same : x ≡ b = cc in ap (λ (c : ℕ). c ∷ line) same
drop_at (x ∷ line) (suc i) b e = let more : suc i + 1 ≡ suc (i + 1) = omega arith in drop_at line i b e ∙ ap (λ (k : ℕ). b ∷ drop k (x ∷ line)) (sym more)

-- a byte of the line from its first on
at_drop : (line : List ℕ) (i b : ℕ) (rest : List ℕ) → drop i line ≡ b ∷ rest → slice_get line i ≡ Some b
at_drop [] zero b rest e = absurd (cc)
at_drop [] (suc i) b rest e = absurd (cc)
at_drop (x ∷ line) zero b rest e = let same : x ≡ b = cc in ap Some same
at_drop (x ∷ line) (suc i) b rest e = at_drop line i b rest e

input-other : (l : Letter) (ls : List Letter) → l.ilabel ≢ 0 → input (l ∷ ls) ≡ l.ilabel ∷ input ls
input-other l ls other = by l.ilabel refl
  where
    by : (k : ℕ) → l.ilabel ≡ k → before k (input ls) ≡ k ∷ input ls
    by zero is = absurd (other is)
    by (suc k) is = refl

input-silent : (l : Letter) (ls : List Letter) → l.ilabel ≡ 0 → input (l ∷ ls) ≡ input ls
input-silent l ls silent = ap (λ (k : ℕ). before k (input ls)) silent

module _ {N : Type 0} (line : List ℕ) (g : Graph N) where
  -- what a path of the lattice from p to q is read off to
  pub record IsRead (p q : Point N) (path : List (Transition (Point N))) : Type 0 where
    pub one : List (Transition N)
    pub off : ReadsOff line g path one
    pub leads : IsPath g p.name one q.name
    pub same : letters one ≡ letters path
    pub rest : drop p.position line ≡ input (letters one) ++ drop q.position line
    pub within : q.position ≤ length line

  -- the first arc, and the rest
  read_step : (p q : Point N) (t : Transition (Point N)) (path : List (Transition (Point N))) → HasNoZero line → p.position ≤ length line → t.state ≡ p → (u : Transition N) → slice_get (moves_at line g p) t.place ≡ Some u
      → Leaves g p.name u → IsStep line g p u t.arc → (t.arc.next.position ≤ length line → IsRead t.arc.next q path) → IsRead p q (t ∷ path)
  read_step p q t path none low state u at leaves (reads_byte byte is) more =
      let next : t.arc.next ≡ point (p.position + 1) u.arc.next = ap (λ (a : Arc Cost (Point N)). a.next) is in
      let inside : p.position < length line = slice_get_within line p.position u.arc.ilabel byte in
      let position : t.arc.next.position ≡ p.position + 1 = ap (λ (n : Point N). n.position) next in
      let r = more (omega (arith, position, inside)) in
      let other : u.arc.ilabel ≢ 0 = subst (λ (b : ℕ). b ≢ 0) (get_or_from_slice_get line p.position u.arc.ilabel 0 byte) (none p.position 0 inside) in
      record {
        one = u ∷ r.one;
        off = (subst (λ (n : Point N). slice_get (moves_at line g n) t.place ≡ Some u) (sym state) at, r.off);
        leads = (leaves, subst (λ (n : Point N). IsPath g n.name r.one q.name) next r.leads);
        same = λ i. letter_of (sym is i) ∷ r.same i;
        rest = drop_at line p.position u.arc.ilabel byte ∙ (ap (λ xs. u.arc.ilabel ∷ xs) (ap (λ (k : ℕ). drop k line) (sym position) ∙ r.rest) ∙ ap (λ xs. xs ++ drop q.position line) (sym (input-other (letter_of u.arc) (letters r.one) other)));
        within = r.within;
      }
  read_step p q t path none low state u at leaves (stays silent is) more =
      let next : t.arc.next ≡ point p.position u.arc.next = ap (λ (a : Arc Cost (Point N)). a.next) is in
      let position : t.arc.next.position ≡ p.position = ap (λ (n : Point N). n.position) next in
      let r = more (omega (arith, position, low)) in
      record {
        one = u ∷ r.one;
        off = (subst (λ (n : Point N). slice_get (moves_at line g n) t.place ≡ Some u) (sym state) at, r.off);
        leads = (leaves, subst (λ (n : Point N). IsPath g n.name r.one q.name) next r.leads);
        same = λ i. letter_of (sym is i) ∷ r.same i;
        rest = ap (λ (k : ℕ). drop k line) (sym position) ∙ (r.rest ∙ ap (λ xs. xs ++ drop q.position line) (sym (input-silent (letter_of u.arc) (letters r.one) silent)));
        within = r.within;
      }

  pub read_path : HasNoZero line → (path : List (Transition (Point N))) (p q : Point N) → p.position ≤ length line → IsPath (lattice line g) p path q → IsRead p q path
  read_path none [] p q low e = record {
    one = [];
    off = tt;
    leads = ap (λ (n : Point N). n.name) e;
    same = refl;
    rest = ap (λ (n : Point N). drop n.position line) e;
    within = subst (λ (n : Point N). n.position ≤ length line) e low;
  }
  read_path none (t ∷ path) p q low leads =
      let step = arc_is_step line g p t.place t.arc leads.0.1 in
      read_step p q t path none low leads.0.0 step.0 step.1 step.2 step.3 (λ fits. read_path none path t.arc.next q fits leads.1)

  -- a path of the graph goes through the line
  pub record IsRun (i : ℕ) (n m : N) (one : List (Transition N)) (rest : List ℕ) : Type 0 where
    pub path : List (Transition (Point N))
    pub position : ℕ
    pub leads : IsPath (lattice line g) (point i n) path (point position m)
    pub off : ReadsOff line g path one
    pub same : letters path ≡ letters one
    pub left : drop position line ≡ rest
    pub within : position ≤ length line

  run_byte : (i : ℕ) (n m : N) (u : Transition N) (one : List (Transition N)) (rest : List ℕ) → Leaves g n u → slice_get line i ≡ Some u.arc.ilabel → IsRun (i + 1) u.arc.next m one rest → IsRun i n m (u ∷ one) rest
  run_byte i n m u one rest leaves byte r =
      let step = byte_step line g (point i n) u leaves byte in
      record {
        path = record { state = point i n; place = step.0; arc = step_to (i + 1) u } ∷ r.path;
        position = r.position;
        leads = ((refl, step.2), r.leads);
        off = (step.1, r.off);
        same = ap (λ ls. letter_of u.arc ∷ ls) r.same;
        left = r.left;
        within = r.within;
      }

  run_silent : (i : ℕ) (n m : N) (u : Transition N) (one : List (Transition N)) (rest : List ℕ) → Leaves g n u → u.arc.ilabel ≡ 0 → IsRun i u.arc.next m one rest → IsRun i n m (u ∷ one) rest
  run_silent i n m u one rest leaves silent r =
      let step = silent_step line g (point i n) u leaves silent in
      record {
        path = record { state = point i n; place = step.0; arc = step_to i u } ∷ r.path;
        position = r.position;
        leads = ((refl, step.2), r.leads);
        off = (step.1, r.off);
        same = ap (λ ls. letter_of u.arc ∷ ls) r.same;
        left = r.left;
        within = r.within;
      }

  pub run_path : (one : List (Transition N)) (n m : N) (i : ℕ) (rest : List ℕ) → i ≤ length line → IsPath g n one m → drop i line ≡ input (letters one) ++ rest → IsRun i n m one rest
  run_path [] n m i rest low e left = record { path = []; position = i; leads = λ k. point i (e k); off = tt; same = refl; left = left; within = low }
  run_path (u ∷ one) n m i rest low leads left =
      by (cases_eq u.arc.ilabel 0) (λ e. run_path one u.arc.next m i rest low leads.1 e) (λ fits e. run_path one u.arc.next m (i + 1) rest fits leads.1 e)
    where
      by : (u.arc.ilabel ≡ 0) ⊎ (u.arc.ilabel ≡ 0 → ⊥) → (drop i line ≡ input (letters one) ++ rest → IsRun i u.arc.next m one rest) → (i + 1 ≤ length line → drop (i + 1) line ≡ input (letters one) ++ rest → IsRun (i + 1) u.arc.next m one rest)
          → IsRun i n m (u ∷ one) rest
      by (inl silent) same next = run_silent i n m u one rest leads.0 silent (same (left ∙ ap (λ xs. xs ++ rest) (input-silent (letter_of u.arc) (letters one) silent)))
      by (inr other) same next =
          let word : drop i line ≡ u.arc.ilabel ∷ (input (letters one) ++ rest) = left ∙ ap (λ xs. xs ++ rest) (input-other (letter_of u.arc) (letters one) other) in
          let byte = at_drop line i u.arc.ilabel (input (letters one) ++ rest) word in
          let both : u.arc.ilabel ∷ drop (i + 1) line ≡ u.arc.ilabel ∷ (input (letters one) ++ rest) = sym (drop_at line i u.arc.ilabel byte) ∙ word in
          run_byte i n m u one rest leads.0 byte (next (omega (arith, slice_get_within line i u.arc.ilabel byte)) (ap (drop 1) both))

  -- one path is read off to one
  pub read_clear : (path : List (Transition (Point N))) (one other : List (Transition N)) → ReadsOff line g path one → ReadsOff line g path other → one ≡ other
  read_clear [] [] [] a b = refl
  read_clear [] [] (v ∷ other) a b = absurd b
  read_clear [] (u ∷ one) other a b = absurd a
  read_clear (t ∷ path) [] other a b = absurd a
  read_clear (t ∷ path) (u ∷ one) [] a b = absurd b
  read_clear (t ∷ path) (u ∷ one) (v ∷ other) a b =
      let same : u ≡ v = cc in
      let rest = read_clear path one other a.1 b.1 in
      λ i. same i ∷ rest i

  -- and from one alone
  pub read_once : HasNoZero line → (path other : List (Transition (Point N))) (p q r : Point N) (one : List (Transition N)) → IsPath (lattice line g) p path q → IsPath (lattice line g) p other r → ReadsOff line g path one → ReadsOff line g other one → path ≡ other
  read_once none [] [] p q r one leads leads' off off' = refl
  read_once none [] (t ∷ other) p q r [] leads leads' off off' = absurd off'
  read_once none [] (t ∷ other) p q r (u ∷ one) leads leads' off off' = absurd off
  read_once none (t ∷ path) [] p q r [] leads leads' off off' = absurd off
  read_once none (t ∷ path) [] p q r (u ∷ one) leads leads' off off' = absurd off'
  read_once none (t ∷ path) (s ∷ other) p q r [] leads leads' off off' = absurd off
  read_once none (t ∷ path) (s ∷ other) p q r (u ∷ one) leads leads' off off' =
      let here : slice_get (moves_at line g p) t.place ≡ Some u = subst (λ (n : Point N). slice_get (moves_at line g n) t.place ≡ Some u) leads.0.0 off.0 in
      let there : slice_get (moves_at line g p) s.place ≡ Some u = subst (λ (n : Point N). slice_get (moves_at line g n) s.place ≡ Some u) leads'.0.0 off'.0 in
      let apart = moves-Apart line g p (λ b byte. subst (λ (c : ℕ). c ≢ 0) (get_or_from_slice_get line p.position b 0 byte) (none p.position 0 (slice_get_within line p.position b byte))) in
      let place : t.place ≡ s.place = Apart_at (moves_at line g p) t.place s.place u apart here there in
      let arc : t.arc ≡ s.arc = first t.arc s.arc (sym leads.0.1 ∙ (ap (slice_get ((lattice line g).arcs p)) place ∙ leads'.0.1)) in
      let state : t.state ≡ s.state = leads.0.0 ∙ sym leads'.0.0 in
      let rest : path ≡ other = read_once none path other t.arc.next q r one leads.1 (subst (λ (a : Arc Cost (Point N)). IsPath (lattice line g) a.next other r) (sym arc) leads'.1) off.1 off'.1 in
      λ i. record { state = state i; place = place i; arc = arc i } ∷ rest i
    where
      first : (a b : Arc Cost (Point N)) → Some a ≡ Some b → a ≡ b
      first a b e = cc

final_here : (i n : ℕ) (w : Cost) → (cond (nat_eq i n) w infinite ≡ infinite → ⊥) → (i ≡ n) × (cond (nat_eq i n) w infinite ≡ w)
final_here i n w ends = by (nat_eq i n) refl
  where
    by : (b : Bool) → nat_eq i n ≡ b → (i ≡ n) × (cond (nat_eq i n) w infinite ≡ w)
    by true is = (eqb-true i n is, ap (λ (b : Bool). cond b w infinite) is)
    by false is = absurd (ends (ap (λ (b : Bool). cond b w infinite) is))

module _ {N : Type 0} (kind : ArcType) (line : List ℕ) (g : Graph N) where
  reads : HasNoZero line → (path : List (Transition (Point N))) (w : Cost) → IsSuccessful kind (lattice line g) path w
      → (one : List (Transition N)) × ReadsOff line g path one × IsSuccessful kind g one w × (input (letters one) ≡ line) × (letters one ≡ letters path)
  reads none path w s =
      let start = mapped_some (point 0) g.start s.first s.starts in
      let low : s.first.position ≤ length line = let e : s.first.position ≡ 0 = ap (λ (n : Point N). n.position) (sym start.2) in omega (arith, e) in
      let r = read_path line g none path s.first s.last low s.leads in
      let ends = final_here s.last.position (length line) (g.final s.last.name) s.final in
      let all : drop s.first.position line ≡ line = ap (λ (n : Point N). drop n.position line) (sym start.2) in
      let nothing : drop s.last.position line ≡ [] = empty (drop s.last.position line) (omega (arith, length-drop s.last.position line, ends.0)) in (
        r.one,
        r.off,
        record {
          first = start.0;
          last = s.last.name;
          starts = start.1;
          leads = subst (λ (n : Point N). IsPath g n.name r.one s.last.name) (sym start.2) r.leads;
          final = subst (λ (v : Cost). v ≡ infinite → ⊥) ends.1 s.final;
          weight = s.weight ∙ (ap (λ v. times kind (product kind (letters path)) v) ends.1 ∙ ap (λ ls. times kind (product kind ls) (g.final s.last.name)) (sym r.same));
        },
        sym (append-nil (input (letters r.one))) ∙ (ap (λ xs. input (letters r.one) ++ xs) (sym nothing) ∙ (sym r.rest ∙ all)),
        r.same,
      )
    where
      empty : (xs : List ℕ) → length xs ≡ 0 → xs ≡ []
      empty [] e = refl
      empty (x ∷ xs) e = absurd (omega (arith, e))

  has : HasNoZero line → (one : List (Transition N)) (w : Cost) → IsSuccessful kind g one w → input (letters one) ≡ line
      → (path : List (Transition (Point N))) × IsSuccessful kind (lattice line g) path w × ReadsOff line g path one × (letters path ≡ letters one)
  has none one w s word =
      let r = run_path line g one s.first s.last 0 [] (omega arith) s.leads (sym word ∙ sym (append-nil (input (letters one)))) in
      let end : r.position ≡ length line = omega (arith, ap length r.left, length-drop r.position line, r.within) in
      let final : (lattice line g).final (point r.position s.last) ≡ g.final s.last = ap (λ (b : Bool). cond b (g.final s.last) infinite) (eq-eqb r.position (length line) end) in (
        r.path,
        record {
          first = point 0 s.first;
          last = point r.position s.last;
          starts = ap (option_map (point 0)) s.starts;
          leads = r.leads;
          final = subst (λ (v : Cost). v ≡ infinite → ⊥) (sym final) s.final;
          weight = s.weight ∙ (ap (λ ls. times kind (product kind ls) (g.final s.last)) (sym r.same) ∙ ap (λ v. times kind (product kind (letters r.path)) v) (sym final));
        },
        r.off,
        r.same,
      )

  once : HasNoZero line → (path other : List (Transition (Point N))) (v w : Cost) (one : List (Transition N)) → IsSuccessful kind (lattice line g) path v
      → IsSuccessful kind (lattice line g) other w → ReadsOff line g path one → ReadsOff line g other one → path ≡ other
  once none path other v w one s s' off off' =
      let same : s'.first ≡ s.first = first s'.first s.first (sym s'.starts ∙ s.starts) in
      read_once line g none path other s.first s.last s'.last one s.leads (subst (λ (n : Point N). IsPath (lattice line g) n other s'.last) same s'.leads) off off'
    where
      first : (a b : Point N) → Some a ≡ Some b → a ≡ b
      first a b e = cc

  pub line_by_line : IsLineByLine kind line g
  line_by_line = record { reads = reads; clear = read_clear line g; has = has; once = once }
