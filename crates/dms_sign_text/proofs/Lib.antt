pub mod BenchValue
pub mod BenchText
pub mod MadeLaws
pub mod WordReading
pub mod HeadLaws
pub mod DefaultsLaws
pub mod RowReading
pub mod FontReading
pub mod FirstLines
pub mod DescriptionLaws
pub mod SetupLaws
pub mod BenchRead
mod LastFont
pub mod Misfits
pub mod LastLines
pub mod Refused
pub mod TextsDescribed
pub mod ShownParts
pub mod Said
pub mod WordsFit
mod Stops
mod NoCause
pub mod FirstCause
