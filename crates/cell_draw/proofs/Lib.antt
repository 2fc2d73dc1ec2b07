pub mod Bounds
mod BridgeBars
mod BridgeCount
mod BridgeFrom
mod BridgeGates
mod BridgeLines
mod BridgePlaces
mod BridgeRouted
pub mod BridgeRow
mod BridgeTracks
mod BridgeWhole
mod DeviceBoxes
mod Devices
mod DevicesPlaced
mod DrawnNets
mod Draws
mod Extracts
mod FingersPlaced
mod Found
mod Framed
mod FramedDrawn
mod FramedTags
mod LabelPieces
mod LabelsPlaced
pub mod MetalNamed
mod NamesPlaced
mod NetsApart
mod NetsBars
mod NetsBridge
mod NetsDrawn
mod NetsFacts
mod NetsHalves
mod NetsJoined
mod NetsKinds
mod NetsLinks
mod NetsLow
pub mod NetsNamed
mod NetsPlaces
mod NetsRouted
mod NetsWhole
mod NetsWires
pub mod Refusals
mod RulesActive
mod RulesAround
mod RulesContacts
mod RulesCovers
mod RulesGates
mod RulesGood
mod RulesLayers
mod RulesMetal1
mod RulesMetal2
mod RulesPieces
mod RulesPlaces
mod RulesPoly
mod RulesRows
mod RulesVias
mod RulesWhole
mod ShownRow
mod ShownTracks
mod Sizes
mod Smalls
mod Tags
mod TagsFound
pub mod TrunkCount
mod Wirings
