mod DatagramLists
mod WorldSign
mod WorldSignRows
mod WorldSignSteps
mod WorldSignSound
mod WorldSignFit
mod WorldSignGood
mod WorldSignBacked
pub mod WorldInputs
pub mod WorldNumbers
pub mod WorldGrows
pub mod WorldOrders
pub mod WorldSent
pub mod WorldReported
mod WorldHonestPutUp
mod WorldHonestRange
mod WorldHonestCodes
mod WorldReplies
mod WorldHonest
pub mod Runs
pub mod Made
mod WorldInFlight
mod WorldNoError
mod WorldAlways
