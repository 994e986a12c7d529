-- What the documents of images, scripts and sizes tell: the same as the texts.
use Rattle.std.specs.Prelude.{◌≡◌, ℕ, Option, List, Bool}
use Rattle.std.specs.List.{list_any}
use Rattle.ee_flash.specs.Device.{Device}
use Rattle.ee_image_store.specs.Opening.{SpellsDevice}
use Rattle.ee_check.specs.Certificate.{Claim}
use Rattle.ee_plan.specs.declared.planner.demand.Demand.{Demand}
use Rattle.ee_commands.specs.Json.{plan_document, sizes_document, states_document, wear_document}
use Rattle.ee_commands.specs.Planning.{IsPlannedClaim}
use Rattle.ee_commands.specs.Sizing.{AreNeeds, is_enough}
use Rattle.ee_commands.specs.Wear.{AreWearCounts}

-- the states of the pages of the image that a text spells
pub record IsStatesDocument (text document : List ℕ) : Type 0 where
  pub device : Device
  pub spelled : SpellsDevice text device
  pub document_is : document ≡ states_document device.image

-- the wear of an image, or what came since the image before
pub record IsWearDocument (image : List ℕ) (before : Option (List ℕ)) (document : List ℕ)
    : Type 0 where
  pub counts : List ℕ
  pub are_counts : AreWearCounts image before counts
  pub document_is : document ≡ wear_document counts

-- the certificate that is planned
pub record IsPlanDocument (image script document : List ℕ) : Type 0 where
  pub claim : Claim
  pub planned : IsPlannedClaim image script claim
  pub document_is : document ≡ plan_document claim

-- what is demanded of each size, and whether one is enough
pub record IsSizesDocument (words : ℕ) (script : List ℕ) (cycles runs : ℕ) (document : List ℕ)
    (some_enough : Bool) : Type 0 where
  pub changes : ℕ
  pub demands : List Demand
  pub needs : AreNeeds words script runs changes demands
  pub document_is : document ≡ sizes_document words cycles changes demands
  pub enough_is : some_enough ≡ list_any (is_enough cycles) demands
