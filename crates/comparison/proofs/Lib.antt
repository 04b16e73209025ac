pub mod Near
pub mod GrossNear
pub mod ExactMoves
pub mod RatesAlone
pub mod FigureSizes
pub mod ComparedFiles
