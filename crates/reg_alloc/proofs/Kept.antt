-- The renamed program keeps what the program shows and means, needs no more, is well formed, and is over homes.
use Rattle.std.proofs.Common.{◌≡◌, ℕ, suc, ◌≤◌, ◌<◌, ◌^◌, Bool, true, false, List, [], ◌∷◌, map, length, Option, Some, None, arith, refl, sym, ap, subst, ◌∙◌}
use Rattle.std.specs.Prelude.{◌==◌, ◌&&◌, if◌then◌else◌, slice_get, IsTrue}
use Rattle.std.specs.List.{All, AllZip, list_all}
use Rattle.std.proofs.lemmas.List.Elements.{All-nil, All-head, All-tail, All-cons, All-map}
use Rattle.pan_flow.specs.Flow.{Does, Writes, Then, has, Live, ways, behind, Across as FlowAcross}
use Rattle.pan_flow.specs.Functions.{variables, different, IsWritten}
use Rattle.pan_stage.specs.Mentions.{Arity, Scope, is_right, is_some_and, scope_of}
use Rattle.pan_stage.specs.Room.{HasRoom}
use Rattle.pan_stage.specs.Stage.{Face, AtMost, NeedsNoMore, Keeps}
use Rattle.pan_stage.specs.Sums.{sum_of}
use Rattle.pan_stage.specs.WellFormed.{AreNumbers, AreCounts, AreRight, IsArity}
use Rattle.pan_stage.specs.declared.program.Program.{Program}
use Rattle.pan_stage.proofs.Chain.{room_kept}
use Rattle.word_lang.specs.Homes.{is_home, IsOverHomes, AreOverHomes}
use Rattle.word_lang.specs.Needs.{frame_need, function_code, needs}
use Rattle.word_lang.specs.Stage.{stage}
use Rattle.word_lang.specs.Text.{sites, mentions, arity, flow_of_function}
use Rattle.word_lang.specs.WellFormed.{IsWellFormed}
use Rattle.word_lang.specs.declared.syntax.WordFun.{WordFun}
use Rattle.reg_alloc.specs.Accepts.{Accepts, IsRenamedFunction, IsRenamed}
use Rattle.reg_alloc.specs.Renamed.{rename_function}
use Rattle.reg_alloc.proofs.Programs.{renamed_at, program_seen}
use Rattle.reg_alloc.proofs.RenamedWays.{Images, ways_image, home_has, live_image, across_image}
use Rattle.reg_alloc.proofs.Statements.{map_length}
use Rattle.reg_alloc.proofs.Texts.{rename_flow, renamed_variables, shown}

-- ---- one function

module _ (home : ℕ → ℕ) where
  flow_renamed : (f : WordFun) → flow_of_function (rename_function home f) ≡ rename_flow home (flow_of_function f)
  flow_renamed f = ap (λ g. Then (Does (Writes (map home f.params))) g) (shown home f.body).flow

  nothing_behind : Images home behind behind
  nothing_behind e way m = absurd m

  written_kept : (f : WordFun) → IsWritten (flow_of_function f) → IsWritten (flow_of_function (rename_function home f))
  written_kept f h = record {
    none = λ x l.
        let t = live_image home _ _ x (ways_image home (flow_of_function f) behind behind nothing_behind) (subst (λ g. Live (ways g behind) x) (flow_renamed f) l) in
        h.none t.0 t.2;
  }

  different_kept : (xs : List ℕ) → different (map home xs) ≤ different xs
  different_kept [] = omega arith
  different_kept (x ∷ xs) = by (has xs x) (has (map home xs) (home x)) (home_has home xs x) (different_kept xs)
    where
      by : (b c : Bool) → (b ≡ true → c ≡ true) → different (map home xs) ≤ different xs → (if c then different (map home xs) else suc (different (map home xs))) ≤ (if b then different xs else suc (different xs))
      by true true h l = l
      by true false h l = absurd (let e : false ≡ true = h refl in cc)
      by false true h l = omega (arith, l)
      by false false h l = omega (arith, l)

  variables_kept : (f : WordFun) → variables (flow_of_function (rename_function home f)) ≡ map home (variables (flow_of_function f))
  variables_kept f = ap variables (flow_renamed f) ∙ renamed_variables home (flow_of_function f)

  frame_kept : (f : WordFun) → frame_need (rename_function home f) ≤ frame_need f
  frame_kept f =
      let e = ap different (variables_kept f) in let l = different_kept (variables (flow_of_function f)) in omega (arith, e, l)

  code_kept : (f : WordFun) → function_code (rename_function home f) ≡ function_code f
  code_kept f = let e = map_length home f.params in let k = (shown home f.body).code in omega (arith, e, k)

  arity_kept : (f : WordFun) → arity (rename_function home f) ≡ arity f
  arity_kept f = ap (λ (n : ℕ). record { parameters = n; results = f.results }) (map_length home f.params)

  over_homes : (f : WordFun) → Accepts home f → All (λ x. IsTrue (is_home (home x))) (variables (flow_of_function f)) → IsOverHomes (rename_function home f)
  over_homes f ok h = record {
    homes = subst (All (λ x. IsTrue (is_home x))) (sym (variables_kept f)) (All-map (λ x. IsTrue (is_home x)) home (variables (flow_of_function f)) h);
    across = λ x l a.
        let t = across_image home x (flow_of_function f) behind behind nothing_behind (subst (λ g. FlowAcross g x) (flow_renamed f) a) in
        let far = ok.across t.0 t.2 in let e = t.1 in omega (arith, l, far, e);
  }

-- ---- all functions

-- what is the same of each function is the same of all
zip_kept : {A : Type 0} (of : WordFun → A) → ((home : ℕ → ℕ) (f : WordFun) → of (rename_function home f) ≡ of f) → (fs gs : List WordFun) → AllZip IsRenamedFunction fs gs → map of gs ≡ map of fs
zip_kept of h [] [] all = refl
zip_kept of h [] (g ∷ gs) all = absurd all
zip_kept of h (f ∷ fs) [] all = absurd all
zip_kept of h (f ∷ fs) (g ∷ gs) all = let r = all.0 in ap (λ a. a ∷ map of gs) (ap of r.same ∙ h r.home f) ∙ ap (λ xs. of f ∷ xs) (zip_kept of h fs gs all.1)

-- what follows for each function follows for all
zip_all : (P Q : WordFun → Type 0) → ((f g : WordFun) → IsRenamedFunction f g → P f → Q g) → (fs gs : List WordFun) → AllZip IsRenamedFunction fs gs → All P fs → All Q gs
zip_all P Q h [] [] all a = All-nil Q
zip_all P Q h [] (g ∷ gs) all a = absurd all
zip_all P Q h (f ∷ fs) [] all a = absurd all
zip_all P Q h (f ∷ fs) (g ∷ gs) all a = All-cons Q g gs (h f g all.0 (All-head P f fs a)) (zip_all P Q h fs gs all.1 (All-tail P f fs a))

frames_kept : (fs gs : List WordFun) → AllZip IsRenamedFunction fs gs → AtMost (map frame_need gs) (map frame_need fs)
frames_kept [] [] all = tt
frames_kept [] (g ∷ gs) all = absurd all
frames_kept (f ∷ fs) [] all = absurd all
frames_kept (f ∷ fs) (g ∷ gs) all = let r = all.0 in (subst (λ g. frame_need g ≤ frame_need f) (sym r.same) (frame_kept r.home f), frames_kept fs gs all.1)

module _ (p q : Program WordFun) (renamed : IsRenamed p q) where
  costs_kept : map (λ (f : WordFun). f.cost) q.functions ≡ map (λ (f : WordFun). f.cost) p.functions
  costs_kept = zip_kept (λ (f : WordFun). f.cost) (λ home f. refl) p.functions q.functions renamed.functions

  needs_kept : NeedsNoMore (needs p) (needs q)
  needs_kept = record {
    frames = frames_kept p.functions q.functions renamed.functions;
    code = let e = ap sum_of (zip_kept function_code code_kept p.functions q.functions renamed.functions) in omega (arith, e);
  }

  face_kept : (stage q).face ≡ (stage p).face
  face_kept =
      let face : ℕ → List (List ℕ) → List ℕ → List ℕ → List (List ℕ) → List ℕ → Face = λ main functions costs widths names globals. record { main = main; functions = functions; costs = costs; widths = widths; foreign_names = names; globals = globals } in
      let names = λ (p : Program WordFun). map (λ (f : WordFun). f.name) p.functions in
      let costs = λ (p : Program WordFun). map (λ (f : WordFun). f.cost) p.functions in
      ap (λ x. face x (names q) (costs q) q.exceptions q.names q.globals) renamed.main
      ∙ ap (λ x. face p.main x (costs q) q.exceptions q.names q.globals) (zip_kept (λ (f : WordFun). f.name) (λ home f. refl) p.functions q.functions renamed.functions)
      ∙ ap (λ x. face p.main (names p) x q.exceptions q.names q.globals) costs_kept
      ∙ ap (λ x. face p.main (names p) (costs p) x q.names q.globals) renamed.exceptions
      ∙ ap (λ x. face p.main (names p) (costs p) p.exceptions x q.globals) renamed.names
      ∙ ap (face p.main (names p) (costs p) p.exceptions p.names) renamed.globals

  pub keeps : Keeps (stage p) (stage q)
  keeps = record {
    face = face_kept;
    sites = zip_kept (λ (f : WordFun). sites f.body) (λ home f. (shown home f.body).sites) p.functions q.functions renamed.functions;
    needs = needs_kept;
    seen = λ m r n lawful. program_seen p q renamed m r n;
  }

  -- ---- the renamed program is well formed

  scope_kept : scope_of arity q ≡ scope_of arity p
  scope_kept =
      let scope : List Arity → List ℕ → ℕ → Scope = λ arities widths names. record { arities = arities; widths = widths; names = names } in
      ap (λ x. scope x q.exceptions (length q.names)) (zip_kept arity arity_kept p.functions q.functions renamed.functions)
      ∙ ap (λ x. scope (map arity p.functions) x (length q.names)) renamed.exceptions ∙ ap (λ (x : List (List ℕ)). scope (map arity p.functions) p.exceptions (length x)) renamed.names

  numbers_kept : AreNumbers p → AreNumbers q
  numbers_kept n = record {
    exceptions = subst (λ (x : List ℕ). length x ≤ 1024) (sym renamed.exceptions) n.exceptions;
    names = subst (λ (x : List (List ℕ)). length x ≤ 1024) (sym renamed.names) n.names;
    globals = subst (λ (x : List ℕ). length x ≤ 1024) (sym renamed.globals) n.globals;
    words = subst (All (λ n. n < 2 ^ 64)) (sym renamed.globals) n.words;
  }

  abbrev takes_nothing : Arity → Bool
  takes_nothing a = a.parameters == 0 && a.results == 1

  main_kept : IsTrue (is_some_and (λ f. takes_nothing (arity f)) (slice_get p.functions p.main)) → IsTrue (is_some_and (λ f. takes_nothing (arity f)) (slice_get q.functions q.main))
  main_kept = by (slice_get p.functions p.main) refl
    where
      by : (o : Option WordFun) → slice_get p.functions p.main ≡ o → IsTrue (is_some_and (λ f. takes_nothing (arity f)) o) → IsTrue (is_some_and (λ f. takes_nothing (arity f)) (slice_get q.functions q.main))
      by None e h = absurd (let no : false ≡ true = h in cc)
      by (Some f) e h =
          let a = renamed_at p.functions q.functions p.main f renamed.functions e in let r = a.2 in
          subst (λ i. IsTrue (is_some_and (λ f. takes_nothing (arity f)) (slice_get q.functions i))) (sym renamed.main)
          (subst (λ o. IsTrue (is_some_and (λ f. takes_nothing (arity f)) o)) (sym a.1) (subst (λ a. IsTrue (takes_nothing a)) (sym (ap arity r.same ∙ arity_kept r.home f)) h))

  counts_kept : AreCounts arity p → AreCounts arity q
  counts_kept h = record {
    numbers = numbers_kept h.numbers;
    main = main_kept h.main;
    arities = zip_all (λ f. IsArity (arity f)) (λ f. IsArity (arity f)) (λ f g r. subst IsArity (sym (ap arity r.same ∙ arity_kept r.home f))) p.functions q.functions renamed.functions h.arities;
    widths = subst (All (λ n. n ≤ 64)) (sym renamed.exceptions) h.widths;
  }

  abbrev Right : Scope → WordFun → Type 0
  Right s f = IsTrue (list_all (is_right s (arity f).results) (mentions f.body))

  right_kept : AreRight arity (λ (f : WordFun). mentions f.body) p → AreRight arity (λ (f : WordFun). mentions f.body) q
  right_kept h =
      subst (λ s. All (Right s) q.functions) (sym scope_kept)
      (zip_all (Right (scope_of arity p)) (Right (scope_of arity p)) (λ f g r right.
      subst (Right (scope_of arity p)) (sym r.same) (subst (λ ms. IsTrue (list_all (is_right (scope_of arity p) f.results) ms)) (sym (shown r.home f.body).mentions) right)) p.functions q.functions renamed.functions h)

  formed : IsWellFormed p → IsWellFormed q
  formed h = record {
    counts = counts_kept h.counts;
    right = right_kept h.right;
    written = zip_all (λ f. IsWritten (flow_of_function f)) (λ f. IsWritten (flow_of_function f)) (λ f g r w. subst (λ g. IsWritten (flow_of_function g)) (sym r.same) (written_kept r.home f w)) p.functions q.functions renamed.functions h.written;
    room = subst (λ cs. HasRoom cs (needs q)) (sym costs_kept) (room_kept (map (λ (f : WordFun). f.cost) p.functions) (needs p) (needs q) needs_kept h.room);
  }

  all_over_homes : AreOverHomes q
  all_over_homes = zip_all (λ f. Unit {0}) IsOverHomes (λ f g r u. subst IsOverHomes (sym r.same) (over_homes r.home f r.accepted r.homes)) p.functions q.functions renamed.functions (λ k d l. tt)

  pub well_formed : IsWellFormed p → IsWellFormed q × AreOverHomes q
  well_formed h = (formed h, all_over_homes)
