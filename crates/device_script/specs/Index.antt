-- Where the rule stands that answers a request.
use Rattle.std.specs.Prelude.{◌≡◌, ℕ, ◌+◌, Bool, if◌then◌else◌, List, [], ◌∷◌, Option, Some, None}
use Rattle.std.specs.BTreeMap.{BTreeMap, get, get_by}
use Rattle.std.specs.Cmp.Lexicographic.{slice_cmp}
use Rattle.std.specs.declared.cmp.Ordering.{Ordering}
use Rattle.std.specs.Option.{option_map}
use Rattle.std.specs.Ordering.{nat_cmp, ordering_then}
use Rattle.std.specs.declared.vec.Vec.{Vec}
use Rattle.device_script.specs.declared.index.Index.{Index}
use Rattle.device_script.specs.declared.rules.Rule.{Rule}
use Rattle.device_script.specs.Rules.{answers_load, answers_store, answers_call}

-- the first rule that passes the test
abbrev pub place_where : (Rule → Bool) → List Rule → Option ℕ
place_where test [] = None
place_where test (r ∷ rs) = if test r then Some 0 else option_map (λ i. i + 1) (place_where test rs)

-- accesses are ordered by their numbers of bytes, and then by their addresses
abbrev pub access_cmp : ℕ × ℕ → ℕ × ℕ → Ordering
access_cmp p q = ordering_then (nat_cmp p.0 q.0) (nat_cmp p.1 q.1)

-- what the map has for accesses of so many bytes at this address
abbrev pub at_access : BTreeMap (ℕ × ℕ) ℕ → ℕ → ℕ → Option ℕ
at_access m bytes addr = get access_cmp m (bytes, addr)

-- what the map has for the name
abbrev pub at_name : {Y : Type 0} → BTreeMap (Vec ℕ Y) ℕ → List ℕ → Option ℕ
at_name m name = get_by (λ k. slice_cmp nat_cmp name k.items) m

-- each request is found where the first rule stands that answers it
pub record IsIndex (index : Index) (rules : List Rule) : Type 0 where
  pub loads : (bytes addr : ℕ) → at_access index.loads bytes addr ≡ place_where (λ r. answers_load r bytes addr) rules
  pub stores : (bytes addr : ℕ) → at_access index.stores bytes addr ≡ place_where (λ r. answers_store r bytes addr) rules
  pub calls : (name : List ℕ) → at_name index.calls name ≡ place_where (λ r. answers_call r name) rules
