pub mod FilledLaws
pub mod SampleMethods
mod NameTries
mod LinkTries
pub mod KindLaws
pub mod EachAfter
pub mod LayoutLaws
pub mod PassLaws
pub mod TargetLaws
pub mod ScopeLaws
pub mod SizeLaws
pub mod LinkedLaws
pub mod DescriptorProofs
mod CodeTries
mod GrammarTries
pub mod ByteOrder
pub mod StepLaws
pub mod IndexLaws
pub mod ConstantLaws
pub mod PoolLaws
mod TypingTries
pub mod CodeReading
pub mod CodeLaws
pub mod MoveLaws
pub mod CodeOnce
pub mod AttrLaws
pub mod ClassReads
pub mod ClassLawProofs
pub mod CountLaws
pub mod WorkedFiles
pub mod FaultPlaces
pub mod LoopLaws
pub mod CodeWhole
pub mod CodeExact
pub mod ClassCases
pub mod TypeOrder
pub mod FrameOrder
