-- The documents that `--json` prints: JSON of words, numbers, objects and arrays, with no space.
use Rattle.std.specs.Prelude.{ℕ, ◌+◌, Option, Some, None, List, [], ◌∷◌, ◌++◌, length, drop, decimal, codes, sum}
use Rattle.std.specs.List.{flat_map}
use Rattle.ee_text.specs.Line.{line_feed}
use Rattle.ee_flash.specs.Size.{size_of, slot_count}
use Rattle.ee_flash.specs.declared.word.Word.{Word}
use Rattle.ee_wear.specs.Counts.{greatest_of, least_of}
use Rattle.ee_check.specs.Certificate.{Claim}
use Rattle.ee_check.specs.declared.certificate.Stretch.{Stretch}
use Rattle.ee_pages.specs.Page.{state_of_words}
use Rattle.ee_pages.specs.declared.state.State as page
use Rattle.ee_plan.specs.declared.planner.demand.Demand.{Demand}
use Rattle.ee_plan.specs.declared.planner.demand.Demand.TheVariants.{Transfers, NotFitting}
use Rattle.ee_commands.specs.Images.{state_name}
use Rattle.ee_commands.specs.Sizing.{erases_for, fewest_enough, least_for, limit_for, verdict}

-- a word of plain letters, between quotes
abbrev pub quoted : List ℕ → List ℕ
quoted word = 34 ∷ (word ++ 34 ∷ [])

-- a member of an object: its name, a colon, its value
abbrev pub member : List ℕ → List ℕ → List ℕ
member name value = quoted name ++ 58 ∷ value

-- further members, each behind a comma, the closing brace, and what comes then
abbrev pub further : List (List ℕ) → List ℕ → List ℕ
further [] more = 125 ∷ more
further (member ∷ members) more = 44 ∷ (member ++ further members more)

-- members between braces, and what comes then
abbrev pub braced : List (List ℕ) → List ℕ → List ℕ
braced [] more = 123 ∷ 125 ∷ more
braced (member ∷ members) more = 123 ∷ (member ++ further members more)

-- an object of these members
abbrev pub object : List (List ℕ) → List ℕ
object members = braced members []

-- a document: an object and a line feed
abbrev pub document : List (List ℕ) → List ℕ
document members = braced members (line_feed ∷ [])

-- an item of an array, behind a comma
abbrev pub item : List ℕ → List ℕ
item value = 44 ∷ value

-- an array of items that stand so: the first comma is left out
abbrev pub array : List ℕ → List ℕ
array items = 91 ∷ (drop 1 items ++ 93 ∷ [])

-- ---- the states of pages

abbrev pub state_object : ℕ → page.State → List ℕ
state_object number state =
    object
    (member (codes "page") (decimal number)
    ∷ member (codes "state") (quoted (state_name state)) ∷ [])

-- an object for each page, of which the first has this number
abbrev pub state_items : ℕ → List (List Word) → List ℕ
state_items number [] = []
state_items number (words ∷ pages) =
    item (state_object number (state_of_words words)) ++ state_items (number + 1) pages

abbrev pub states_document : List (List Word) → List ℕ
states_document pages =
    document (member (codes "pages") (array (state_items 0 pages)) ∷ [])

-- ---- wear

abbrev pub count_object : ℕ → ℕ → List ℕ
count_object number count =
    object
    (member (codes "page") (decimal number) ∷ member (codes "wear") (decimal count) ∷ [])

-- an object for each page, of which the first has this number
abbrev pub count_items : ℕ → List ℕ → List ℕ
count_items number [] = []
count_items number (count ∷ counts) =
    item (count_object number count) ++ count_items (number + 1) counts

abbrev pub wear_document : List ℕ → List ℕ
wear_document counts =
    document
    (member (codes "pages") (array (count_items 0 counts))
    ∷ member (codes "total") (decimal (sum counts))
    ∷ member (codes "least") (decimal (least_of counts))
    ∷ member (codes "greatest") (decimal (greatest_of counts)) ∷ [])

-- ---- certificates

abbrev pub stretch_object : Stretch → List ℕ
stretch_object stretch =
    object
    (member (codes "to") (decimal stretch.to) ∷ member (codes "from") (decimal stretch.from) ∷ [])

abbrev pub stretch_items : List Stretch → List ℕ
stretch_items stretches = flat_map (λ stretch. item (stretch_object stretch)) stretches

abbrev pub plan_document : Claim → List ℕ
plan_document claim =
    document
    (member (codes "slots") (decimal claim.slots) ∷ member (codes "fill") (decimal claim.fill)
    ∷ member (codes "live") (decimal claim.live) ∷ member (codes "writes") (decimal claim.writes)
    ∷ member (codes "stretches") (array (stretch_items claim.stretches))
    ∷ member (codes "transfers") (decimal (length claim.stretches)) ∷ [])

-- ---- sizes

-- a size whose sets the trace fits
abbrev pub fitting_object : ℕ → ℕ → ℕ → ℕ → ℕ → List ℕ
fitting_object cycles pages slots transfers limit =
    object
    (member (codes "pages") (decimal pages) ∷ member (codes "slots") (decimal slots)
    ∷ member (codes "transfers") (decimal transfers)
    ∷ member (codes "erases") (decimal (erases_for transfers))
    ∷ member (codes "least") (decimal (least_for transfers))
    ∷ member (codes "limit") (decimal limit)
    ∷ member (codes "verdict") (quoted (verdict cycles transfers limit)) ∷ [])

-- and where it doesn't fit: the first change that doesn't
abbrev pub not_fitting_object : ℕ → ℕ → ℕ → List ℕ
not_fitting_object pages slots n =
    object
    (member (codes "pages") (decimal pages) ∷ member (codes "slots") (decimal slots)
    ∷ member (codes "not_fitting") (decimal n) ∷ [])

-- what is told of a demand on sets of so many pages of so many words, where the trace has so many
-- changes
abbrev pub size_object : ℕ → ℕ → ℕ → ℕ → Demand → List ℕ
size_object words cycles changes pages (Transfers transfers) =
    fitting_object cycles pages (slot_count (size_of pages words)) transfers
    (limit_for pages words changes)
size_object words cycles changes pages (NotFitting n) =
    not_fitting_object pages (slot_count (size_of pages words)) n

-- an object for each demand, of which the first is that of so many pages
abbrev pub size_items : ℕ → ℕ → ℕ → ℕ → List Demand → List ℕ
size_items words cycles changes pages [] = []
size_items words cycles changes pages (demand ∷ demands) =
    item (size_object words cycles changes pages demand)
    ++ size_items words cycles changes (pages + 1) demands

-- a number, or `null` where there is none
abbrev pub number_or_null : Option ℕ → List ℕ
number_or_null None = codes "null"
number_or_null (Some number) = decimal number

abbrev pub sizes_document : ℕ → ℕ → ℕ → List Demand → List ℕ
sizes_document words cycles changes demands =
    document
    (member (codes "sizes") (array (size_items words cycles changes 1 demands))
    ∷ member (codes "fewest") (number_or_null (fewest_enough cycles 1 demands)) ∷ [])

-- ---- for the functions within

-- what stands behind the pages of a document of wear
abbrev pub sums_text : List ℕ → List ℕ
sums_text counts =
    codes ",\"total\":" ++ (decimal (sum counts)
    ++ (codes ",\"least\":" ++ (decimal (least_of counts)
    ++ (codes ",\"greatest\":" ++ (decimal (greatest_of counts) ++ codes "}\n")))))

-- what stands before the stretches of a plan's document
abbrev pub heading_text : Claim → List ℕ
heading_text claim =
    codes "{\"slots\":" ++ (decimal claim.slots
    ++ (codes ",\"fill\":" ++ (decimal claim.fill
    ++ (codes ",\"live\":" ++ (decimal claim.live
    ++ (codes ",\"writes\":" ++ (decimal claim.writes ++ codes ",\"stretches\":")))))))

-- the numbers of a size's object, behind a comma
abbrev pub size_numbers : ℕ → ℕ → ℕ → ℕ → ℕ → ℕ → List ℕ
size_numbers pages slots transfers erases least limit =
    codes ",{\"pages\":" ++ (decimal pages
    ++ (codes ",\"slots\":" ++ (decimal slots
    ++ (codes ",\"transfers\":" ++ (decimal transfers
    ++ (codes ",\"erases\":" ++ (decimal erases
    ++ (codes ",\"least\":" ++ (decimal least
    ++ (codes ",\"limit\":" ++ decimal limit))))))))))
