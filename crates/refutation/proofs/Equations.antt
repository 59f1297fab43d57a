-- Which answer of a step each test of the code decides. Assumes nothing.
use Rattle.std.proofs.Common.{◌≡◌, ℕ, zero, suc, ◌+◌, ◌-◌, ◌%◌, ◌^◌, ◌<◌, ◌≤◌, true, false, ltb, leb, List, length, get_or, set, replicate, sym, refl, ap, ◌∙◌, arith, le-ltb, lt-ltb, eq-eqb, ne_eqb, le-leb}
use borrow.Author.Tests.{lt-leb}
use lib.Seq.{set_out}
use Rattle.std.specs.Prelude.{Option, None, Some}
use Rattle.refutation.specs.declared.Reason.{Reason}
use Rattle.refutation.specs.declared.Reason.TheVariants.{StoreFull, NumberTooLarge, NoSuchVariable, NoSuchClause, NotImplied, TooManyLines}
use Rattle.refutation.specs.declared.State.{State}
use Rattle.refutation.specs.Steps.{refused_for, put_refusal, longer, unless, after_put, store_after_put, marks_after_put, commit_refusal, begun_size, committed, after_commit, store_after_commit, index_after_commit, places_at, forgetting, after_forget, index_after_forget}

module _ {A : Type 0} (x : Option Reason) (a : Reason → A) (b : A) where
  refused : (why : Reason) → x ≡ Some why → a why ≡ unless x a b
  refused why q = ap (λ (y : Option Reason). unless y a b) (sym q)

  made : x ≡ None → b ≡ unless x a b
  made z = ap (λ (y : Option Reason). unless y a b) (sym z)

-- ---- a word more

module _ (s : State) (store marks : List ℕ) (w k : ℕ) (e : k ≡ w) where
  abbrev pub Put : State → List ℕ → List ℕ → Type 0
  Put r store₁ marks₁ = (r ≡ after_put s store marks w) × (store₁ ≡ store_after_put s store marks w) × (marks₁ ≡ marks_after_put s store marks w)

  put_refused : (why : Reason) → put_refusal s store marks w ≡ Some why → (r : State) → r ≡ refused_for s why → Put r store marks
  unfolding after_put store_after_put marks_after_put
  put_refused why q r d =
      let y = put_refusal s store marks w in
      (d ∙ refused y (refused_for s) (longer s) why q, refused y (λ _. store) (set store s.at w) why q, refused y (λ _. marks) (set marks w s.stamp) why q)

  pub put_full : length store ≤ s.at → (r : State) → r ≡ refused_for s StoreFull → Put r store marks
  put_full h = put_refused StoreFull (unfold put_refusal in rw (le-leb (length store) s.at h) refl)

  module _ (h : s.at < length store) where
    pub put-no-variable : length marks ≤ k → (r : State) → r ≡ refused_for s NoSuchVariable → Put r store marks
    put-no-variable l =
        put_refused NoSuchVariable (unfold put_refusal in rw (lt-leb (length store) s.at h, le-leb (length marks) w (omega (arith, l, e))) refl)

    pub put-made : k < length marks → Put (longer s) (set store s.at w) (set marks k s.stamp)
    unfolding after_put store_after_put marks_after_put
    put-made l =
        let y = put_refusal s store marks w in
        let z : y ≡ None = unfold put_refusal in rw (lt-leb (length store) s.at h, lt-leb (length marks) w (omega (arith, l, e))) refl in
        (made y (refused_for s) (longer s) z, made y (λ _. store) (set store s.at w) z, ap (λ (x : ℕ). set marks x s.stamp) e ∙ made y (λ _. marks) (set marks w s.stamp) z)

-- ---- the clause begun is stored

module _ (s : State) (store index : List ℕ) (i : ℕ) (e : i ≡ s.id) where
  abbrev pub Commit : State → List ℕ → List ℕ → Type 0
  Commit r store₁ index₁ = (r ≡ after_commit s store index) × (store₁ ≡ store_after_commit s store index) × (index₁ ≡ index_after_commit s store index)

  abbrev stored : List ℕ
  stored = set (set store s.top s.id) (s.top + 1) (begun_size s)

  commit-refused : (why : Reason) → commit_refusal s store index ≡ Some why → (r : State) → r ≡ refused_for s why → Commit r store index
  unfolding after_commit store_after_commit index_after_commit
  commit-refused why q r d =
      let y = commit_refusal s store index in
      (d ∙ refused y (refused_for s) (committed s) why q, refused y (λ _. store) stored why q, refused y (λ _. index) (set index s.id s.top) why q)

  pub commit-6 : s.proved ≡ false → (r : State) → r ≡ refused_for s NotImplied → Commit r store index
  commit-6 p = commit-refused NotImplied (unfold commit_refusal in rw p refl)

  module _ (p : s.proved ≡ true) where
    pub commit-2 : length index ≤ i → (r : State) → r ≡ refused_for s NumberTooLarge → Commit r store index
    commit-2 l = commit-refused NumberTooLarge (unfold commit_refusal in rw (p, le-leb (length index) s.id (omega (arith, l, e))) refl)

    module _ (a : i < length index) where
      number : leb (length index) s.id ≡ false
      number = lt-leb (length index) s.id (omega (arith, a, e))

      pub commit-short : length store < s.at → (r : State) → r ≡ refused_for s StoreFull → Commit r store index
      commit-short l = commit-refused StoreFull (unfold commit_refusal in rw (p, number, lt-ltb (length store) s.at l) refl)

      module _ (b : s.at ≤ length store) where
        room : ltb (length store) s.at ≡ false
        room = le-ltb (length store) s.at b

        pub commit-large : 4294967290 ≤ s.at → (r : State) → r ≡ refused_for s StoreFull → Commit r store index
        commit-large l = commit-refused StoreFull (unfold commit_refusal in rw (p, number, room, le-leb 4294967290 s.at l) refl)

        module _ (c : s.at < 4294967290) where
          small : leb 4294967290 s.at ≡ false
          small = lt-leb 4294967290 s.at c

          pub commit-none : s.at < 2 → (r : State) → r ≡ refused_for s StoreFull → Commit r store index
          commit-none l = commit-refused StoreFull (unfold commit_refusal in rw (p, number, room, small, lt-ltb s.at 2 l) refl)

          module _ (d : 2 ≤ s.at) where
            head : ltb s.at 2 ≡ false
            head = le-ltb s.at 2 d

            pub commit-before : s.at - 2 < s.top → (r : State) → r ≡ refused_for s StoreFull → Commit r store index
            commit-before l =
                commit-refused StoreFull (unfold commit_refusal in rw (p, number, room, small, head, lt-ltb (s.at - 2) s.top l) refl)

            module _ (f : s.top ≤ s.at - 2) where
              behind : ltb (s.at - 2) s.top ≡ false
              behind = le-ltb (s.at - 2) s.top f

              pub commit-7 : 4294967295 ≤ s.stamp → (r : State) → r ≡ refused_for s TooManyLines → Commit r store index
              commit-7 l =
                  commit-refused TooManyLines (unfold commit_refusal in rw (p, number, room, small, head, behind, le-leb 4294967295 s.stamp l) refl)

              pub commit-made : s.stamp < 4294967295 → Commit (committed s) stored (set index i s.top)
              unfolding after_commit store_after_commit index_after_commit
              commit-made l =
                  let y = commit_refusal s store index in
                  let z : y ≡ None = unfold commit_refusal in rw (p, number, room, small, head, behind, lt-leb 4294967295 s.stamp l) refl in
                  (made y (refused_for s) (committed s) z, made y (λ _. store) stored z, ap (λ (x : ℕ). set index x s.top) e ∙ made y (λ _. index) (set index s.id s.top) z)

-- ---- a clause is forgotten

module _ (store : List ℕ) (c : ℕ) where
  pub places-at-0 : c ≡ 0 → 0 ≡ places_at store c
  unfolding places_at
  places-at-0 z = rw (eq-eqb c 0 z) refl

  module _ (n : c ≡ 0 → ⊥) where
    pub places-no-store : length store < 2 → 0 ≡ places_at store c
    unfolding places_at
    places-no-store l = rw (ne_eqb c 0 n, lt-ltb (length store) 2 l) refl

    module _ (a : 2 ≤ length store) where
      pub places-outside : length store - 2 < c → 0 ≡ places_at store c
      unfolding places_at
      places-outside l = rw (ne_eqb c 0 n, le-ltb (length store) 2 a, lt-ltb (length store - 2) c l) refl

      module _ (b : c ≤ length store - 2) (k : ℕ) (e : k ≡ get_or store (c + 1) 0) where
        pub places-too-long : length store - 2 < k → 0 ≡ places_at store c
        unfolding places_at
        places-too-long l =
            rw (ne_eqb c 0 n, le-ltb (length store) 2 a, le-ltb (length store - 2) c b, ← e, lt-ltb (length store - 2) k l) refl

        pub places-held : k ≤ length store - 2 → k + 2 ≡ places_at store c
        unfolding places_at
        places-held l =
            rw (ne_eqb c 0 n, le-ltb (length store) 2 a, le-ltb (length store - 2) c b, ← e, le-ltb (length store - 2) k l) refl

module _ (s : State) (store index : List ℕ) (id i : ℕ) (e : i ≡ id) where
  abbrev pub Forget : State → List ℕ → Type 0
  Forget r index₁ = (r ≡ after_forget s store index id) × (index₁ ≡ index_after_forget index id)

  pub forget-none : length index ≤ i → (r : State) → r ≡ refused_for s NoSuchClause → Forget r index
  unfolding after_forget index_after_forget
  forget-none l r d =
      let h : length index ≤ id = omega (arith, l, e) in
      (d ∙ rw (le-leb (length index) id h) refl, sym (set_out index id 0 h))

  pub forget-made : i < length index → (k : ℕ) → k ≡ (s.dead + places_at store (get_or index i 0)) % 2 ^ 64
      → Forget
      (record {
        refusal = s.refusal;
        refuted = s.refuted;
        proved = s.proved;
        id = s.id;
        top = s.top;
        at = s.at;
        stamp = s.stamp;
        dead = k;
      })
      (set index i 0)
  unfolding after_forget index_after_forget forgetting
  forget-made l k q = (rw (lt-leb (length index) id (omega (arith, l, e)), q, e) refl, rw e refl)

-- ---- cleared arrays

pub zero-at : (xs : List ℕ) (k : ℕ) → xs ≡ replicate k 0 → (w : ℕ) → get_or xs w 0 ≡ 0
zero-at xs k e w = ap (λ (l : List ℕ). get_or l w 0) e ∙ zeros k w
  where
    zeros : (k w : ℕ) → get_or (replicate {A = ℕ} k 0) w 0 ≡ 0
    zeros zero w = refl
    zeros (suc k) zero = refl
    zeros (suc k) (suc w) = zeros k w
