-- How much frames and code may take, by what the functions of a program cost.
use Rattle.std.specs.Prelude.{◌≡◌, ◌≤◌, ℕ, ◌+◌, ◌-◌, ◌*◌, ◌/◌, List, length, map}
use Rattle.std.specs.List.{All}
use Rattle.pan_stage.specs.Sums.{sum_of}
use Rattle.pan_stage.specs.Stage.{Needs, NeedsNoMore}

-- what a function of this cost weighs: the cost is 16 times the sum of 4 and the weight
abbrev pub weight_of : ℕ → ℕ
weight_of cost = cost / 16 - 4

-- what functions of these costs weigh together
abbrev pub weight_of_all : List ℕ → ℕ
weight_of_all costs = sum_of (map weight_of costs)

-- a cost that a function may have
pub record IsCost (cost : ℕ) : Type 0 where
  pub whole : cost ≡ 16 * (4 + weight_of cost)
  pub light : weight_of cost ≤ 16384

-- the costs of at most 4,096 functions that weigh at most 262,144 together
pub record AreCosts (costs : List ℕ) : Type 0 where
  pub few : length costs ≤ 4096
  pub each : All IsCost costs
  pub light : weight_of_all costs ≤ 262144

-- the most that may be needed: each frame within its function's cost, and 1,024 bytes of code for a unit of weight, beside 4,096
abbrev pub allowed : List ℕ → Needs
allowed costs = record { frames = costs; code = 4096 + 1024 * weight_of_all costs }

-- functions of these costs have room for what they need
pub record HasRoom (costs : List ℕ) (needs : Needs) : Type 0 where
  pub priced : AreCosts costs
  pub within : NeedsNoMore (allowed costs) needs
